-- The value of digits, one by one, against a limit.
use Rattle.plan_line.specs.declared.wrong.Wrong.{Wrong}
use Rattle.std.specs.Prelude.{Err, Ok, Result}
use Prim.Native.Nat.{ℕ, suc, ◌+◌, ◌*◌, ◌-◌, ◌/◌, ◌≤◌, ◌<◌}
use mathlib.Core.Path.{◌≡◌, refl, sym, ap, ◌∙◌}
use Rattle.std.specs.Str.{bytes_eq}
use Rattle.std.specs.Result.{IsErrAnd}
use Rattle.std.specs.Prelude.{IsTrue, ◌↔◌, EachIndex, slice_index}
use Rattle.std.proofs.lemmas.List.Recursion.{and_at}
use mathlib.Core.Bool.{Bool, true, false, cond, ◌&&◌}
use mathlib.Core.List.{List, [], ◌∷◌}
use native.Mathlib.Numerals.{add-one}
use native.Mathlib.Omega.{arith}
use borrow.Author.Tests.{le-leb, lt-leb, leb-true}
use lib.Dec.{leb, eqb}
use lib.ListN.{length, get_or, take, drop}
use lib.Seq.{drop-cons}
use Rattle.plan_line.specs.declared.wrong.Wrong.TheVariants.{OutOfRange, NotNumber}
use Rattle.plan_line.specs.Numbers.{is_digit, all_digits, digits_value, within, natural_of, place_in, integer_in, negated_number}
use Rattle.plan_line.proofs.Searching.{drop_past}

each_digit : (w : List ℕ) → all_digits w ≡ true → (k : ℕ) → k < length w → is_digit (get_or w k 0) ≡ true
unfolding all_digits
each_digit w e k h = and_at all_digits is_digit refl (λ b w. refl) w k 0 h e

all_of_each : (w : List ℕ) → ((k : ℕ) → k < length w → is_digit (get_or w k 0) ≡ true) → all_digits w ≡ true
unfolding all_digits
all_of_each [] h = refl
all_of_each (b ∷ w) h = rw (h 0 (omega arith)) (all_of_each w (λ k g. h (suc k) (omega arith)))

same_tests : (x y : Bool) → (x ≡ true → y ≡ true) → (y ≡ true → x ≡ true) → x ≡ y
same_tests true y h g = sym (h refl)
same_tests false true h g = g refl
same_tests false false h g = refl

pub digits_told : (w : List ℕ) {r : Bool} → (IsTrue r ↔ EachIndex w (λ k. is_digit (slice_index w k) ≡ true)) → r ≡ all_digits w
digits_told w {r} h = same_tests r (all_digits w) (λ e. all_of_each w (h.0 e)) (λ e. h.1 (each_digit w e))

module _ (w : List ℕ) (i : ℕ) where
  pub value_on : (v : ℕ) → i < length w → digits_value v (drop i w) ≡ digits_value (10 * v + (get_or w i 0 - 48)) (drop (i + 1) w)
  unfolding digits_value
  value_on v h = rw (drop-cons w i 0 h, add-one)

  pub value_end : (v : ℕ) → length w ≤ i → digits_value v (drop i w) ≡ v
  unfolding digits_value
  value_end v h = rw (drop_past w i h)

-- digits that follow make no value less
grows : (v : ℕ) (s : List ℕ) → v ≤ digits_value v s
unfolding digits_value
grows v [] = omega arith
grows v (b ∷ s) = omega (arith, grows (10 * v + (b - 48)) s)

module _ (w : List ℕ) (i v limit : ℕ) {whole : ℕ} (so_far : whole ≡ digits_value v (drop i w)) where
  pub too_large : i < length w → limit / 10 < v → Err OutOfRange ≡ within limit whole
  unfolding within
  too_large h g =
      let e = so_far ∙ value_on w i v h in
      let k = grows (10 * v + (get_or w i 0 - 48)) (drop (i + 1) w) in
      rw (lt-leb whole limit (omega arith))

  module _ (all : length w ≤ i) where
    pub in_range : v ≤ limit → Ok v ≡ within limit whole
    unfolding within
    in_range g = let e = so_far ∙ value_end w i v all in rw (e, le-leb v limit g)

    pub out_of_range : limit < v → Err OutOfRange ≡ within limit whole
    unfolding within
    out_of_range g = let e = so_far ∙ value_end w i v all in rw (e, lt-leb v limit g)

module _ (limit : ℕ) where
  pub no_digits : (w : List ℕ) → length w ≡ 0 → Err NotNumber ≡ natural_of limit w
  unfolding natural_of
  no_digits [] e = refl
  no_digits (b ∷ w) e = absurd (omega arith)

  pub some_digits : (w : List ℕ) → (length w ≡ 0 → ⊥) → natural_of limit w ≡ cond (all_digits w) (within limit (digits_value 0 w)) (Err NotNumber)
  unfolding natural_of
  some_digits [] h = absurd (h refl)
  some_digits (b ∷ w) h = refl

and_true : (x : Bool) → x && true ≡ x
and_true true = refl
and_true false = refl

-- an integer with its sign, and one without
pub signed_integer : (w : List ℕ) → bytes_eq (take 1 w) (45 ∷ []) ≡ true → integer_in w ≡ negated_number (natural_of 0x8000_0000_0000_0000 (drop 1 w))
unfolding integer_in
signed_integer [] e = absurd cc
signed_integer (b ∷ w) e = rw (sym (and_true (eqb b 45)) ∙ e)

pub plain_integer : (w : List ℕ) → bytes_eq (take 1 w) (45 ∷ []) ≡ false → integer_in w ≡ natural_of 0x7FFF_FFFF_FFFF_FFFF w
unfolding integer_in natural_of
plain_integer [] e = refl
plain_integer (b ∷ w) e = rw (sym (and_true (eqb b 45)) ∙ e)

fit : {v : ℕ} (x : Bool) (n : ℕ) → leb n 0xFFFF_FFFF ≡ x → cond x (Ok n) (Err OutOfRange) ≡ Ok v → v < 0x1_0000_0000
fit {v} true n e f = let h : n ≡ v = cc in omega (arith, leb-true n 0xFFFF_FFFF e)
fit false n e f = absurd cc

some_value : {v : ℕ} (x : Bool) (r : Result ℕ Wrong) → cond x r (Err NotNumber) ≡ Ok v → r ≡ Ok v
some_value true r e = e
some_value false r e = absurd cc

-- a place or a count fits 32 bits
pub place_fits : (w : List ℕ) {v : ℕ} → place_in w ≡ Ok v → v < 0x1_0000_0000
unfolding natural_of within
place_fits [] e = absurd cc
place_fits (b ∷ w) e = fit (leb (digits_value 0 (b ∷ w)) 0xFFFF_FFFF) (digits_value 0 (b ∷ w)) refl (some_value (all_digits (b ∷ w)) _ e)

-- a refusal handed on by `?`
pub handed_on : {A E : Type 0} (r : Result A E) {e : E} → IsErrAnd r (λ x. x ≡ e) → r ≡ Err e
handed_on (Ok x) h = absurd h
handed_on (Err d) h = ap (λ x. Err x) h
