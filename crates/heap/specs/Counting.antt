-- How often an address stands in a list of addresses, and how often the fields of a list of blocks name it.
-- The sets of the scope (linear list, lazy list, held blocks) and its reference counts are stated by these numbers, so that each proof is arithmetic.
use Rattle.std.specs.Prelude.{List, [], ◌∷◌, ℕ, ◌+◌, cond, eqb}

-- 1 if the two numbers are the same, else 0
unfoldable pub same : ℕ → ℕ → ℕ
same a b = cond {A = ℕ} (eqb a b) 1 0

-- how often b stands in the list
abbrev pub occ : ℕ → List ℕ → ℕ
occ b [] = 0
occ b (x ∷ xs) = same b x + occ b xs

-- how often the fields of the listed blocks name b
abbrev pub refs : (ℕ → List ℕ) → ℕ → List ℕ → ℕ
refs children b [] = 0
refs children b (x ∷ xs) = occ b (children x) + refs children b xs
