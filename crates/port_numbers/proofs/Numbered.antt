-- The last arm of a `match` on an operation's number.
use Prim.Native.Nat.{ℕ, zero, suc}
use mathlib.Core.Path.{◌≡◌, refl, sym}
use mathlib.Core.List.{List, ◌∷◌}
use native.Mathlib.Omega.{arith}
use lib.ListN.{get_or, length, get_or-eq_default}
use Rattle.records.proofs.Matched.{NoneOf, above}

module _ {A : Type 0} where
  -- the element of a number that is none of those from 1 to the list's length
  pub none_of : (xs : List A) (d : A) (x : ℕ) → NoneOf x (length xs) → d ≡ get_or (d ∷ xs) x d
  none_of xs d zero n = refl
  none_of xs d (suc x) n = let h = above (length xs) (omega arith) n in sym (get_or-eq_default xs d (omega arith))
