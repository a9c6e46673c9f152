-- Records put one after the other: bindings of a load, lines of a text.
use Prim.Native.Nat.{ℕ, suc, ◌+◌, ◌*◌, ◌-◌, ◌≤◌, ◌<◌}
use mathlib.Core.Path.{◌≡◌, refl, sym, ap, ◌∙◌, subst}
use mathlib.Core.List.{List, [], ◌∷◌, ◌++◌, append_assoc}
use native.Mathlib.Numerals.{add-one}
use native.Mathlib.Omega.{arith}
use lib.ListN.{length, take, replicate}
use lib.Seq.{take-nil}
use Rattle.records.specs.declared.binding.Kind.{Kind}
use Rattle.records.specs.declared.binding.Binding.{Binding}
use Rattle.records.specs.declared.order.Order.{Order}
use Rattle.records.specs.declared.order.Order.TheVariants.{Put, Compute, Copy, Drop, Store, Load, Print}
use Rattle.records.specs.Bytes.{le, stored}
use Rattle.records.specs.Contexts.{binding_bytes}
use Rattle.records.specs.Orders.{order_fields_of, order_bytes}
use Rattle.text.specs.Putting.{Puts}
use Rattle.text.proofs.Putting.{nothing, at_most, ◌⨟◌}
use Rattle.plan_line.specs.Orders.{Words}
use Rattle.plan.specs.Plan.{kind_of_word, bindings, following}

pub append-nil : (xs : List ℕ) → xs ++ [] ≡ xs
append-nil [] = refl
append-nil (x ∷ xs) = ap (λ (l : List ℕ). x ∷ l) (append-nil xs)

-- a record that was written into bytes of its own size
pub put_whole : {o o' s bs : List ℕ} {n i j : ℕ} → s ≡ bs → length bs ≡ n → Puts (length s) o i o' j s → Puts n o i o' j bs
put_whole {o} {o'} {s} {bs} {n} {i} {j} e h p = subst (λ (m : ℕ). Puts m o i o' j bs) h (subst (λ (l : List ℕ). Puts (length l) o i o' j l) e p)

pub whole_binding : (b : Binding) {s : List ℕ} → s ≡ stored (replicate 8 0) 0 (binding_bytes b) → s ≡ binding_bytes b
unfolding stored binding_bytes le
whole_binding b e = e

pub binding_size : (b : Binding) → length (binding_bytes b) ≡ 8
unfolding binding_bytes le
binding_size b = refl

pub whole_order : (o : Order) {s : List ℕ} → s ≡ stored (replicate 24 0) 0 (order_bytes (order_fields_of o)) → s ≡ order_bytes (order_fields_of o)
unfolding stored order_bytes le
whole_order o e = e

pub order_size : (o : Order) → length (order_bytes (order_fields_of o)) ≡ 24
unfolding order_bytes le
order_size o = refl

-- the first of all bytes put, and those that are left
pub record Begun (most : ℕ) (o : List ℕ) (i : ℕ) (o' : List ℕ) (j : ℕ) (all left : List ℕ) : Type 0 where
  pub so_far : List ℕ
  pub put : Puts most o i o' j so_far
  pub joins : all ≡ so_far ++ left

begin : (o : List ℕ) (i : ℕ) (all : List ℕ) → Begun 0 o i o i all all
begin o i all = record { so_far = []; put = nothing o i; joins = refl }

module _ {most i j : ℕ} {o o' all left : List ℕ} (b : Begun most o i o' j all left) where
  pub go_on : {n k : ℕ} {o'' bs left' : List ℕ} → Puts n o' j o'' k bs → left ≡ bs ++ left' → Begun (most + n) o i o'' k all left'
  go_on {bs = bs} {left' = left'} p e =
      record {
        so_far = b.so_far ++ bs;
        put = b.put ⨟ p;
        joins = b.joins ∙ ap (λ (l : List ℕ). b.so_far ++ l) e ∙ sym (append_assoc b.so_far bs left');
      }

  pub all_put : (n : ℕ) → left ≡ [] → most ≤ n → Puts n o i o' j all
  all_put n e h =
      let g : all ≡ b.so_far = b.joins ∙ ap (λ (l : List ℕ). b.so_far ++ l) e ∙ append-nil b.so_far in
      subst (λ (l : List ℕ). Puts n o i o' j l) (sym g) (at_most b.put h)

pub no_kind : (o : List ℕ) (i n : ℕ) (ws : Words) → Begun (8 * 0) o i o i (bindings 0 (take n ws)) (bindings 0 (take (n - 0) ws))
no_kind o i n ws = let z : n - 0 ≡ n = omega arith in rw z (begin o i (bindings 0 (take n ws)))

-- the bindings of n kinds, of which k are put; the words that are left
module _ (n k : ℕ) (ws : Words) {i j : ℕ} {o o' all : List ℕ} (b : Begun (8 * k) o i o' j all (bindings k (take (n - k) ws))) where
  pub kind_put : {w : List ℕ} {rest : Words} {o'' : List ℕ} {l : ℕ} {kind : Kind} → k < n → ws ≡ w ∷ rest → kind ≡ kind_of_word w
      → Puts 8 o' j o'' l (binding_bytes (record { kind = kind; id = k }))
      → Begun (8 * (k + 1)) o i o'' l all (bindings (k + 1) (take (n - (k + 1)) rest))
  unfolding bindings
  kind_put {w} {rest} {o''} {l} h e f p =
      let g : n - k ≡ suc (n - (k + 1)) = omega arith in
      let m : 8 * k + 8 ≡ 8 * (k + 1) = omega arith in
      subst (λ (most : ℕ). Begun most o i o'' l all (bindings (k + 1) (take (n - (k + 1)) rest))) m (go_on b p (rw (e, g, f, add-one)))

  pub no_more_words : ws ≡ [] → k ≤ n → Puts (8 * n) o i o' j all
  unfolding bindings
  no_more_words e h = all_put b (8 * n) (rw (e, take-nil {A = List ℕ} (n - k))) (omega arith)

  pub all_kinds : n ≤ k → k ≤ n → Puts (8 * n) o i o' j all
  unfolding bindings
  all_kinds h g = let z : n - k ≡ 0 = omega arith in all_put b (8 * n) (rw z) (omega arith)

-- what follows an order: a load's bindings, or nothing
pub none_follow : (order : Order) (ws : Words) → ((n : ℕ) → order ≡ Load n → ⊥) → following order ws ≡ []
none_follow (Load n) ws h = absurd (h n refl)
none_follow (Put v) ws h = refl
none_follow (Compute operation a b) ws h = refl
none_follow (Copy a n) ws h = refl
none_follow Drop ws h = refl
none_follow (Store n tag) ws h = refl
none_follow (Print newline a) ws h = refl

module _ {order : Order} {ws : Words} {n : ℕ} (e : order ≡ Load n) where
  pub load_follows : {w : List ℕ} {rest : Words} {most i j : ℕ} {o o' : List ℕ} → ws ≡ w ∷ rest
      → Puts most o i o' j (bindings 0 (take n rest)) → Puts most o i o' j (following order ws)
  load_follows f p = rw (e, f) p

  pub nothing_loaded : (most : ℕ) (o : List ℕ) (i : ℕ) → ws ≡ [] → Puts most o i o i (following order ws)
  unfolding bindings
  nothing_loaded most o i f = rw (e, f, take-nil {A = List ℕ} n) (at_most (nothing o i) (omega arith))
