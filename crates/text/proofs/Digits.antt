-- A number's digits: none, the only one, or those before the last and the last.
use Prim.Native.Nat.{ℕ, zero, suc, ◌+◌, ◌-◌, ◌/◌, ◌%◌, ◌≤◌, ◌<◌}
use mathlib.Core.Path.{◌≡◌, refl}
use mathlib.Core.List.{List, [], ◌∷◌, ◌++◌}
use native.Mathlib.Omega.{arith}
use borrow.Author.Tests.{lt-ltb, le-ltb}
use Rattle.text.specs.Text.{ascii, digit, digits, decimal, signed_decimal}
use Rattle.text.specs.Putting.{Puts}
use Rattle.text.proofs.Putting.{nothing, at_most, ◌⨟◌}

one_digit : (k v : ℕ) → (k ≡ 0 → ⊥) → v < 10 → digits k v ≡ digit v ∷ []
unfolding digits
one_digit zero v n h = absurd (n refl)
one_digit (suc k) v n h = rw (lt-ltb v 10 h)

more_digits : (k v : ℕ) → (k ≡ 0 → ⊥) → 10 ≤ v → digits k v ≡ digits (k - 1) (v / 10) ++ (digit (v % 10) ∷ [])
unfolding digits
more_digits zero v n h = absurd (n refl)
more_digits (suc k) v n h = let e : suc k - 1 ≡ k = omega arith in rw (le-ltb v 10 h, e)

module _ (k v : ℕ) {o : List ℕ} {i : ℕ} where
  pub puts_none : k ≡ 0 → Puts k o i o i (digits k v)
  unfolding digits
  puts_none e = rw e (nothing o i)

  module _ (some : k ≡ 0 → ⊥) {o' : List ℕ} {j : ℕ} where
    pub puts_one : v < 10 → Puts 1 o i o' j (digit v ∷ []) → Puts k o i o' j (digits k v)
    puts_one h p = rw (one_digit k v some h) (at_most p (omega arith))

    pub puts_more : {o'' : List ℕ} {n : ℕ} → 10 ≤ v → Puts (k - 1) o i o' j (digits (k - 1) (v / 10)) → Puts 1 o' j o'' n (digit (v % 10) ∷ [])
        → Puts k o i o'' n (digits k v)
    puts_more h p q = rw (more_digits k v some h) (at_most (p ⨟ q) (omega arith))

-- an integer without and with its sign
module _ (v : ℕ) {o o' : List ℕ} {i j : ℕ} where
  pub puts_positive : v < 0x8000_0000_0000_0000 → Puts 20 o i o' j (decimal v) → Puts 21 o i o' j (signed_decimal v)
  unfolding signed_decimal
  puts_positive h p = rw (lt-ltb v 0x8000_0000_0000_0000 h) (at_most p (omega arith))

  pub puts_negative : {o'' : List ℕ} {n : ℕ} → 0x8000_0000_0000_0000 ≤ v → v < 0x1_0000_0000_0000_0000
      → Puts 1 o i o' j (ascii "-") → Puts 20 o' j o'' n (decimal (0xFFFF_FFFF_FFFF_FFFF - v + 1)) → Puts 21 o i o'' n (signed_decimal v)
  unfolding signed_decimal
  puts_negative h g p q =
      let e : 0xFFFF_FFFF_FFFF_FFFF - v + 1 ≡ 0x1_0000_0000_0000_0000 - v = omega arith in
      rw (le-ltb v 0x8000_0000_0000_0000 h) (p ⨟ rw e at q)
