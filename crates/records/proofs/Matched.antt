-- The last arm of a `match` on a number: it is none of those that the other arms name.
use Prim.Native.Nat.{ℕ, zero, suc, ◌≤◌, ◌<◌}
use mathlib.Core.Path.{◌≡◌}
use native.Mathlib.Omega.{arith}

-- x is none of 1 to k
abbrev pub NoneOf : ℕ → ℕ → Type 0
NoneOf x zero = Unit {0}
NoneOf x (suc k) = NoneOf x k × (x ≡ suc k → ⊥)

pub above : {x : ℕ} (k : ℕ) → 1 ≤ x → NoneOf x k → k < x
above zero h n = h
above (suc k) h n = let p = above k h n.0 in let q = n.1 in omega arith
