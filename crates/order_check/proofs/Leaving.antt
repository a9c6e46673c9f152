-- The context after an order: how long it is, and that what is kept and what is made or brought are it.
use Prim.Native.Nat.{ℕ, ◌*◌, ◌-◌, ◌≤◌}
use mathlib.Core.Path.{◌≡◌, subst}
use mathlib.Core.Bool.{Bool}
use mathlib.Core.List.{List, ◌++◌, append-nil}
use native.Mathlib.Omega.{arith}
use lib.ListN.{length, take, length-append}
use lib.Seq.{sets, take_all, take-length, length-take-le}
use Rattle.records.specs.declared.binding.Kind.{Kind}
use Rattle.records.specs.declared.binding.Kind.TheVariants.{Linked, Ext}
use Rattle.records.specs.declared.order.Calculation.{Calculation}
use Rattle.records.specs.declared.order.Order.{Order}
use Rattle.records.specs.declared.order.Order.TheVariants.{Put, Compute, Copy, Drop, Store, Load, Print}
use Rattle.records.proofs.Storing.{sets_then}
use Rattle.records.specs.Orders.{wanted}
use Rattle.order_spec.specs.Writes.{made, made_all, kind_at, context_after}
use Rattle.order_check.specs.After.{count_after}
use Rattle.order_check.proofs.Making.{binding_long, made_long}

-- a fact of an order that is another
module _ (k : ℕ) {o x : Order} (e : o ≡ x) where
  pub enough : (l : ℕ) → 8 * wanted o ≤ l → 8 * wanted x ≤ l
  enough l h = subst (λ (y : Order). 8 * wanted y ≤ l) e h

-- what is kept, and then what is written after it
pub kept_then : {o₁ o₂ : List ℕ} (o c : List ℕ) (end : ℕ) (xs : List ℕ) → end ≤ length c → o₁ ≡ sets o 0 (take end c) → o₂ ≡ sets o₁ end xs
    → o₂ ≡ sets o 0 (take end c ++ xs)
kept_then o c end xs h e f = let l = length-take-le end c h in rw (f, e) (sets_then (take end c) xs o 0 end (omega arith))

pub kept_and_brought : {o₁ o₂ : List ℕ} (o c : List ℕ) (end : ℕ) (b : List ℕ) → end ≤ length c → o₁ ≡ sets o 0 (take end c)
    → o₂ ≡ sets o₁ end (take (length b) b) → o₂ ≡ sets o 0 (take end c ++ b)
kept_and_brought o c end b h e f = kept_then o c end b h e (rw (take-length b) at f)

module _ (c : List ℕ) (k : ℕ) (b : List ℕ) {o : Order} where
  module _ (h : length c ≡ 8 * k) where
    pub put_left : (value : ℕ) → o ≡ Put value → take (8 * k) c ++ made_all Ext k 1 ≡ context_after c k b o
    unfolding context_after
    put_left value e = rw (e, take_all (8 * k) c (omega arith), append-nil (made Ext k))

    pub compute_left : (operation : Calculation) (x y : ℕ) → o ≡ Compute operation x y → take (8 * k) c ++ made_all Ext k 1 ≡ context_after c k b o
    unfolding context_after
    compute_left operation x y e = rw (e, take_all (8 * k) c (omega arith), append-nil (made Ext k))

    pub copy_left : {kind : Kind} (a n : ℕ) → o ≡ Copy a n → kind ≡ kind_at c a → take (8 * k) c ++ made_all kind k n ≡ context_after c k b o
    unfolding context_after
    copy_left a n e f = rw (e, f, take_all (8 * k) c (omega arith))

    pub print_left : (newline : Bool) (a : ℕ) → o ≡ Print newline a → take (8 * k) c ++ made_all Ext k 0 ≡ context_after c k b o
    unfolding context_after
    print_left newline a e = rw (e, take_all (8 * k) c (omega arith), append-nil c)

  pub drop_left : o ≡ Drop → take (8 * (k - 1)) c ++ made_all Ext (k - 1) 0 ≡ context_after c k b o
  unfolding context_after
  drop_left e = rw (e, append-nil (take (8 * (k - 1)) c))

  pub store_left : (n tag : ℕ) → o ≡ Store n tag → take (8 * (k - n)) c ++ made_all Linked (k - n) 1 ≡ context_after c k b o
  unfolding context_after
  store_left n tag e = rw (e, append-nil (made Linked (k - n)))

  pub load_left : (n : ℕ) → o ≡ Load n → take (8 * (k - 1)) c ++ b ≡ context_after c k b o
  unfolding context_after
  load_left n e = rw e

one_made : (kind : Kind) (place : ℕ) → length (made kind place) ≡ 8
one_made kind place = binding_long (record { kind = kind; id = place })

-- how long the context after an order is
pub after_long : (c : List ℕ) (k : ℕ) (b : List ℕ) (o : Order) → length c ≡ 8 * k → length b ≡ 8 * wanted o
    → length (context_after c k b o) ≡ 8 * count_after k o
unfolding context_after
after_long c k b (Put value) h w = omega (arith, length-append c (made Ext k), one_made Ext k)
after_long c k b (Compute operation x y) h w = omega (arith, length-append c (made Ext k), one_made Ext k)
after_long c k b (Copy a n) h w = omega (arith, length-append c (made_all (kind_at c a) k n), made_long (kind_at c a) k n)
after_long c k b Drop h w = omega (arith, length-take-le (8 * (k - 1)) c (omega arith))
after_long c k b (Store n tag) h w =
    omega (arith, length-append (take (8 * (k - n)) c) (made Linked (k - n)), one_made Linked (k - n), length-take-le (8 * (k - n)) c (omega arith))
after_long c k b (Load n) h w =
    omega (arith, length-append (take (8 * (k - 1)) c) b, length-take-le (8 * (k - 1)) c (omega arith))
after_long c k b (Print newline a) h w = h
