-- Which of a context's variables are integers, in contexts joined, shortened and made.
use Prim.Native.Nat.{ℕ, zero, suc, ◌+◌, ◌*◌, ◌-◌, ◌<◌}
use mathlib.Core.Path.{◌≡◌, refl, ◌∙◌}
use mathlib.Core.Bool.{Bool, true, false, cond}
use mathlib.Core.List.{List, ◌++◌}
use native.Mathlib.Omega.{arith}
use lib.ListN.{length, take, get_or-append}
use lib.Seq.{get_or-append-add, get_or-take}
use Rattle.records.specs.declared.binding.Kind.{Kind}
use Rattle.records.specs.declared.binding.Kind.TheVariants.{Linked, Ext}
use Rattle.records.specs.Bytes.{le}
use Rattle.records.specs.Contexts.{binding_bytes, ext_at}
use Rattle.memory.specs.Objects.{ext_in}
use Rattle.order_spec.specs.Writes.{made, made_all, kind_at}

module _ (s t : List ℕ) (k : ℕ) (long : length s ≡ 8 * k) (x : ℕ) where
  pub ext_left : x < k → ext_at (s ++ t) x ≡ ext_at s x
  ext_left h = rw (get_or-append s t 0 (8 * x + 2) (omega arith))

  pub ext_right : ext_at (s ++ t) (k + x) ≡ ext_at t x
  ext_right = let e : 8 * (k + x) + 2 ≡ length s + (8 * x + 2) = omega arith in rw (e, get_or-append-add s t (8 * x + 2) 0)

pub ext_take : (s : List ℕ) (n x : ℕ) → x < n → ext_at (take (8 * n) s) x ≡ ext_at s x
ext_take s n x h = rw (get_or-take (8 * n) s (8 * x + 2) 0 (omega arith))

abbrev pub is_ext : Kind → Bool
is_ext Linked = false
is_ext Ext = true

pub ext_made_all : (kind : Kind) (place n x : ℕ) → x < n → ext_at (made_all kind place n) x ≡ is_ext kind
unfolding binding_bytes le
ext_made_all kind place zero x h = absurd (omega arith)
ext_made_all Linked place (suc n) zero h = refl
ext_made_all Ext place (suc n) zero h = refl
ext_made_all kind place (suc n) (suc x) h =
    let e : 1 + x ≡ suc x = omega arith in
    rw (← e) (ext_right (made kind place) (made_all kind (suc place) n) 1 refl x ∙ ext_made_all kind (suc place) n x (omega arith))

pub ext_made : (kind : Kind) (place : ℕ) → ext_at (made kind place) 0 ≡ is_ext kind
unfolding binding_bytes le
ext_made Linked place = refl
ext_made Ext place = refl

pub kind_at_lem : (s : List ℕ) (a : ℕ) → is_ext (kind_at s a) ≡ ext_at s a
kind_at_lem s a = by (ext_at s a)
  where
    by : (b : Bool) → is_ext (cond b Ext Linked) ≡ b
    by true = refl
    by false = refl

-- the same where the bytes start with the binding of variable `first`
pub ext_in_lem : (s : List ℕ) (first x : ℕ) → ext_in s first (first + x) ≡ ext_at s x
ext_in_lem s first x = let e : first + x - first ≡ x = omega arith in rw e

pub ext_in_whole : (s : List ℕ) (x : ℕ) → ext_in s 0 x ≡ ext_at s x
ext_in_whole s x = let e : x - 0 ≡ x = omega arith in rw e
