-- How many digits a number has, and all places up to one.
use Prim.Native.Nat.{ℕ, zero, suc, ◌+◌, ◌*◌, ◌-◌, ◌/◌, ◌%◌, ◌≤◌, ◌<◌}
use mathlib.Core.Path.{◌≡◌}
use mathlib.Core.List.{[], ◌∷◌}
use native.Mathlib.Omega.{arith}
use native.Mathlib.Decide.{dec_lt}
use lib.ListN.{length, length-append}
use borrow.Author.Tests.{lt-ltb, le-ltb}
use Rattle.text.specs.Text.{ascii, digit, digits, decimal, signed_decimal}

-- the least number of j + 2 digits
abbrev tens : ℕ → ℕ
tens zero = 10
tens (suc j) = 10 * tens j

pub digits_most : (j k v : ℕ) → v < tens j → length (digits k v) ≤ j + 1
unfolding digits
digits_most j zero v h = omega arith
digits_most zero (suc k) v h = rw (lt-ltb v 10 h) (omega arith)
digits_most (suc j) (suc k) v h = by (dec_lt v 10) (digits_most j k (v / 10))
  where
    by : Dec (v < 10) → (v / 10 < tens j → length (digits k (v / 10)) ≤ j + 1) → length (digits (suc k) v) ≤ suc j + 1
    by (yes l) rest = rw (lt-ltb v 10 l) (omega arith)
    by (no l) rest =
        rw (le-ltb v 10 (omega arith)) (omega (arith, length-append (digits k (v / 10)) (digit (v % 10) ∷ []), rest (omega arith)))

some_digit : (k v : ℕ) → 1 ≤ k → 1 ≤ length (digits k v)
unfolding digits
some_digit zero v h = h
some_digit (suc k) v h = by (dec_lt v 10)
  where
    by : Dec (v < 10) → 1 ≤ length (digits (suc k) v)
    by (yes l) = rw (lt-ltb v 10 l) (omega arith)
    by (no l) = rw (le-ltb v 10 (omega arith)) (omega (arith, length-append (digits k (v / 10)) (digit (v % 10) ∷ [])))

digits_least : (j k v : ℕ) → j + 2 ≤ k → tens j ≤ v → j + 2 ≤ length (digits k v)
unfolding digits
digits_least zero zero v l h = l
digits_least (suc j) zero v l h = absurd (omega arith)
digits_least zero (suc k) v l h =
    rw (le-ltb v 10 h) (omega (arith, length-append (digits k (v / 10)) (digit (v % 10) ∷ []), some_digit k (v / 10) (omega arith)))
digits_least (suc j) (suc k) v l h =
    rw (le-ltb v 10 (omega (arith, ten_most j)))
    (omega (arith, length-append (digits k (v / 10)) (digit (v % 10) ∷ []), digits_least j k (v / 10) (omega arith) (omega arith)))
  where
    ten_most : (j : ℕ) → 10 ≤ tens j
    ten_most zero = omega arith
    ten_most (suc j) = omega (arith, ten_most j)

-- the digits of all places up to k, below 10,000
abbrev pub place_digits : ℕ → ℕ
place_digits k = k + (k - 9) + (k - 99) + (k - 999)

pub next_digits : (k : ℕ) → suc k < 10000 → place_digits (suc k) ≡ place_digits k + length (decimal (suc k))
next_digits k h = by (dec_lt (suc k) 10) (dec_lt (suc k) 100) (dec_lt (suc k) 1000)
  where
    most : (j : ℕ) → suc k < tens j → length (decimal (suc k)) ≤ j + 1
    most j l = digits_most j 20 (suc k) l

    by : Dec (suc k < 10) → Dec (suc k < 100) → Dec (suc k < 1000) → place_digits (suc k) ≡ place_digits k + length (decimal (suc k))
    by (yes a) b c = omega (arith, most 0 a, some_digit 20 (suc k) (omega arith))
    by (no a) (yes b) c = omega (arith, most 1 b, digits_least 0 20 (suc k) (omega arith) (omega arith))
    by (no a) (no b) (yes c) = omega (arith, most 2 c, digits_least 1 20 (suc k) (omega arith) (omega arith))
    by (no a) (no b) (no c) = omega (arith, most 3 h, digits_least 2 20 (suc k) (omega arith) (omega arith))

-- 19 digits, and a sign
pub signed_most : (v : ℕ) → length (signed_decimal v) ≤ 20
unfolding signed_decimal
signed_most v = by (dec_lt v 0x8000_0000_0000_0000)
  where
    by : Dec (v < 0x8000_0000_0000_0000) → length (signed_decimal v) ≤ 20
    by (yes l) = rw (lt-ltb v 0x8000_0000_0000_0000 l) (omega (arith, digits_most 18 20 v (omega arith)))
    by (no l) =
        rw (le-ltb v 0x8000_0000_0000_0000 (omega arith))
        (omega (arith, length-append (ascii "-") (decimal (0x1_0000_0000_0000_0000 - v)), digits_most 18 20 (0x1_0000_0000_0000_0000 - v) (omega arith)))
