-- The lines of a listing, put one after the other.
use Prim.Native.Nat.{ℕ, ◌+◌, ◌*◌, ◌≤◌}
use mathlib.Core.Path.{◌≡◌, subst}
use mathlib.Core.List.{List, ◌++◌}
use native.Mathlib.Nat.{le_antisymm}
use native.Mathlib.Numerals.{add-one}
use native.Mathlib.Omega.{arith}
use lib.ListN.{drop}
use Rattle.records.specs.declared.code.Fields.{Fields}
use Rattle.records.specs.Instructions.{fields_in}
use Rattle.listing.specs.Listing.{line, lines}
use Rattle.text.specs.Putting.{Puts}
use Rattle.text.proofs.Putting.{nothing, at_most, ◌⨟◌}

module _ (names : List (List ℕ)) (s : List ℕ) where
  pub no_lines : (o : List ℕ) (i : ℕ) → Puts (140 * 0) o i o i (lines names s 0)
  unfolding lines
  no_lines o i = nothing o i

  module _ (k : ℕ) {i j : ℕ} {o o' : List ℕ} (so_far : Puts (140 * k) o i o' j (lines names s k)) where
    pub line_more : {f : Fields} {o'' : List ℕ} {n : ℕ} → f ≡ fields_in (drop (24 * k) s) → Puts 140 o' j o'' n (line names (k + 1) f)
        → Puts (140 * (k + 1)) o i o'' n (lines names s (k + 1))
    unfolding lines
    line_more {f} e p =
        let q : lines names s (k + 1) ≡ lines names s k ++ line names (k + 1) f = rw (add-one, e) in
        rw q (at_most (so_far ⨟ p) (omega arith))

    pub all_lines : (n : ℕ) → k ≤ n → n ≤ k → Puts (140 * n) o i o' j (lines names s n)
    all_lines n g h = subst (λ (m : ℕ). Puts (140 * m) o i o' j (lines names s m)) (le_antisymm g h) so_far
