-- A set of registers: built variable by variable, its members are the registers to save, and its ones are their number.
use Prim.Native.Nat.{ℕ, zero, suc, ◌+◌, ◌*◌, ◌/◌, ◌%◌, ◌^◌, ◌≤◌, ◌<◌, min}
use mathlib.Core.Path.{◌≡◌, refl, sym, ap, ◌∙◌}
use mathlib.Core.Bool.{Bool, true, false, cond}
use mathlib.Core.List.{List, [], ◌∷◌, ◌++◌}
use native.Mathlib.Nat.{mul-le-mul_right, mod-eq_of_lt, mod-lt, pow-suc, mul_comm}
use native.Mathlib.Numerals.{add-one}
use native.Mathlib.Omega.{arith}
use lib.Arith.{mod-mul}
use lib.Bits.{bit_or, or_shifted_r}
use lib.Count.{ones, ones_cat}
use lib.Dec.{eqb}
use lib.ListN.{length, length-append}
use lib.Pow.{pow_mono, pow_pos}
use Rattle.print_i64.specs.Registers.{registers_of, registers_to, registers_to_save, set_of, two_bits, bit, members, CallerSaved}

set_append : (xs ys : List ℕ) → set_of (xs ++ ys) ≡ set_of xs + set_of ys
set_append [] ys = omega arith
set_append (x ∷ xs) ys = omega (arith, set_append xs ys)

two_le : (ext : Bool) → two_bits ext ≤ 3
two_le true = omega arith
two_le false = omega arith

own_set : (ext : Bool) (v : ℕ) → set_of (registers_of ext v) ≡ two_bits ext * 2 ^ (4 + 2 * v)
own_set ext v =
    let e : 5 + 2 * v ≡ suc (4 + 2 * v) = omega arith in
    let p : 2 ^ (5 + 2 * v) ≡ 2 * 2 ^ (4 + 2 * v) = ap (λ (n : ℕ). 2 ^ n) e ∙ pow-suc 2 (4 + 2 * v) ∙ omega arith in
    by ext p
  where
    by : (b : Bool) → 2 ^ (5 + 2 * v) ≡ 2 * 2 ^ (4 + 2 * v) → set_of (registers_of b v) ≡ two_bits b * 2 ^ (4 + 2 * v)
    by true p = omega arith
    by false p = omega arith

module _ (ext : ℕ → Bool) where
  one_more : (k : ℕ) → set_of (registers_to ext (suc k)) ≡ two_bits (ext k) * 2 ^ (4 + 2 * k) + set_of (registers_to ext k)
  one_more k = omega (arith, set_append (registers_to ext k) (registers_of (ext k) k), own_set (ext k) k)

  set_below : (k : ℕ) → set_of (registers_to ext k) < 2 ^ (4 + 2 * k)
  set_below zero = omega arith
  set_below (suc k) =
      let e : 4 + 2 * suc k ≡ suc (suc (4 + 2 * k)) = omega arith in
      rw e (omega (arith, one_more k, mul-le-mul_right (2 ^ (4 + 2 * k)) (two_le (ext k)), set_below k))

  -- one variable more: its bits lie above those of the set
  pub set_next : (k : ℕ) → k < 4 → bit_or (set_of (registers_to ext k)) ((two_bits (ext k) * 2 ^ (4 + 2 * k)) % 2 ^ 16) ≡ set_of (registers_to ext (k + 1))
  set_next k h =
      let l : 4 + 2 * k ≤ 10 = omega arith in
      let b : two_bits (ext k) * 2 ^ (4 + 2 * k) < 2 ^ 16 = omega (arith, mul-le-mul_right (2 ^ (4 + 2 * k)) (two_le (ext k)), pow_mono l) in
      rw (mod-eq_of_lt b, add-one k, one_more k) (or_shifted_r (two_bits (ext k)) (4 + 2 * k) (set_of (registers_to ext k)) (set_below k))

-- the ones of a set are its members
count_members : (k m : ℕ) → ones (m % 2 ^ k) ≡ length (members k m)
unfolding members ones
count_members zero m = let e : m % 1 ≡ 0 = omega arith in rw e
count_members (suc k) m =
    let e : m % 2 ^ suc k ≡ (m / 2 ^ k % 2) * 2 ^ k + m % 2 ^ k = ap (λ (n : ℕ). m % n) (pow-suc 2 k ∙ mul_comm (2 ^ k) 2) ∙ mod-mul m (omega arith) (pow_pos k) in
    rw (e, ones_cat k (m / 2 ^ k % 2) (m % 2 ^ k) (mod-lt m (pow_pos k)), count_members k m, length-append (members k m) (cond (bit k m) (k ∷ []) [])) (digit (m / 2 ^ k % 2) (mod-lt (m / 2 ^ k) (omega arith)))
  where
    digit : (x : ℕ) → x < 2 → ones x + length (members k m) ≡ length (members k m) + length (cond {A = List ℕ} (eqb x 1) (k ∷ []) [])
    digit zero h = omega arith
    digit (suc zero) h = omega arith
    digit (suc (suc x)) h = absurd (omega arith)

pub ones_members : (m : ℕ) → m < 65536 → ones m ≡ length (members 16 m)
ones_members m h = ap ones (sym (mod-eq_of_lt h)) ∙ count_members 16 m

-- one register more
pub members_next : (r m : ℕ) → length (members (r + 1) m) ≡ length (members r m) + m / 2 ^ r % 2
unfolding members
members_next r m = rw (add-one r, length-append (members r m) (cond (bit r m) (r ∷ []) [])) (ap (λ (n : ℕ). length (members r m) + n) (digit (m / 2 ^ r % 2) (mod-lt (m / 2 ^ r) (omega arith))))
  where
    digit : (x : ℕ) → x < 2 → length (cond {A = List ℕ} (eqb x 1) (r ∷ []) []) ≡ x
    digit zero h = refl
    digit (suc zero) h = refl
    digit (suc (suc x)) h = absurd (omega arith)

pub members_most : (r m : ℕ) → length (members r m) ≤ r
unfolding members
members_most zero m = omega arith
members_most (suc r) m = omega (arith, rw (add-one r) at (members_next r m), members_most r m, mod-lt (m / 2 ^ r) {m = 2} (omega arith))

-- the members of the set are the list that it was made of, and none is below 4 or above 11: computed for the four variables' kinds
abbrev four : Bool → Bool → Bool → Bool → ℕ → Bool
four a b c d v = cond (eqb v 0) a (cond (eqb v 1) b (cond (eqb v 2) c d))

abbrev Same : (ℕ → Bool) → ℕ → Type 0
Same ext k =
    let m = set_of (registers_to ext k) in
    (members 16 m ≡ registers_to ext k) × CallerSaved m

abbrev AllSame : Bool → Bool → Bool → Bool → Type 0
AllSame a b c d = Same (four a b c d) 0 × Same (four a b c d) 1 × Same (four a b c d) 2 × Same (four a b c d) 3 × Same (four a b c d) 4

all_same : (a b c d : Bool) → AllSame a b c d
unfolding members
all_same true true true true = ((refl, (refl, refl)), (refl, (refl, refl)), (refl, (refl, refl)), (refl, (refl, refl)), (refl, (refl, refl)))
all_same true true true false = ((refl, (refl, refl)), (refl, (refl, refl)), (refl, (refl, refl)), (refl, (refl, refl)), (refl, (refl, refl)))
all_same true true false true = ((refl, (refl, refl)), (refl, (refl, refl)), (refl, (refl, refl)), (refl, (refl, refl)), (refl, (refl, refl)))
all_same true true false false = ((refl, (refl, refl)), (refl, (refl, refl)), (refl, (refl, refl)), (refl, (refl, refl)), (refl, (refl, refl)))
all_same true false true true = ((refl, (refl, refl)), (refl, (refl, refl)), (refl, (refl, refl)), (refl, (refl, refl)), (refl, (refl, refl)))
all_same true false true false = ((refl, (refl, refl)), (refl, (refl, refl)), (refl, (refl, refl)), (refl, (refl, refl)), (refl, (refl, refl)))
all_same true false false true = ((refl, (refl, refl)), (refl, (refl, refl)), (refl, (refl, refl)), (refl, (refl, refl)), (refl, (refl, refl)))
all_same true false false false = ((refl, (refl, refl)), (refl, (refl, refl)), (refl, (refl, refl)), (refl, (refl, refl)), (refl, (refl, refl)))
all_same false true true true = ((refl, (refl, refl)), (refl, (refl, refl)), (refl, (refl, refl)), (refl, (refl, refl)), (refl, (refl, refl)))
all_same false true true false = ((refl, (refl, refl)), (refl, (refl, refl)), (refl, (refl, refl)), (refl, (refl, refl)), (refl, (refl, refl)))
all_same false true false true = ((refl, (refl, refl)), (refl, (refl, refl)), (refl, (refl, refl)), (refl, (refl, refl)), (refl, (refl, refl)))
all_same false true false false = ((refl, (refl, refl)), (refl, (refl, refl)), (refl, (refl, refl)), (refl, (refl, refl)), (refl, (refl, refl)))
all_same false false true true = ((refl, (refl, refl)), (refl, (refl, refl)), (refl, (refl, refl)), (refl, (refl, refl)), (refl, (refl, refl)))
all_same false false true false = ((refl, (refl, refl)), (refl, (refl, refl)), (refl, (refl, refl)), (refl, (refl, refl)), (refl, (refl, refl)))
all_same false false false true = ((refl, (refl, refl)), (refl, (refl, refl)), (refl, (refl, refl)), (refl, (refl, refl)), (refl, (refl, refl)))
all_same false false false false = ((refl, (refl, refl)), (refl, (refl, refl)), (refl, (refl, refl)), (refl, (refl, refl)), (refl, (refl, refl)))

module _ (ext : ℕ → Bool) where
  same_to : (k : ℕ) → k ≤ 4 → Same ext k
  same_to k h = by k h (all_same (ext 0) (ext 1) (ext 2) (ext 3))
    where
      by : (k : ℕ) → k ≤ 4 → AllSame (ext 0) (ext 1) (ext 2) (ext 3) → Same ext k
      by zero h t = t.0
      by (suc zero) h t = t.1
      by (suc (suc zero)) h t = t.2
      by (suc (suc (suc zero))) h t = t.3
      by (suc (suc (suc (suc zero)))) h t = t.4
      by (suc (suc (suc (suc (suc k))))) h t = absurd (omega arith)

  pub members_saved : (n : ℕ) → members 16 (set_of (registers_to_save ext n)) ≡ registers_to_save ext n
  members_saved n = (same_to (min n 4) (omega arith)).0

  pub saved_within : (n : ℕ) → CallerSaved (set_of (registers_to_save ext n))
  saved_within n = (same_to (min n 4) (omega arith)).1
