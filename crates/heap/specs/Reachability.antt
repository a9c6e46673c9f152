-- The blocks that pointers lead to, and their number.
-- From the scope, 'Blocks and objects': held are just the blocks that pointers name, followed from the variables and the lazy list.
use Rattle.std.specs.Prelude.{◌≡◌, ◌≢◌, List, ℕ, ◌≤◌, length}
use Rattle.heap.specs.Counting.{occ}
use Rattle.heap.specs.Blocks.{Cell, children}

-- where starts b is how often the pointers to begin with name b
pub data Reachable (children : ℕ → List ℕ) (starts : ℕ → ℕ) : ℕ → Type 0 where
  start : {b : ℕ} → b ≢ 0 → starts b ≢ 0 → Reachable children starts b
  follow : (y : ℕ) {b : ℕ} → Reachable children starts y → b ≢ 0 → occ b (children y) ≢ 0 → Reachable children starts b

-- from a list of roots alone
abbrev pub ReachableFrom : (ℕ → List Cell) → List ℕ → ℕ → Type 0
ReachableFrom fields roots b = Reachable (children fields) (λ x. occ x roots) b

-- the number of blocks that the roots lead to
pub record ReachableCount (fields : ℕ → List Cell) (roots : List ℕ) (count : ℕ) : Type 0 where
  pub list : List ℕ
  pub size : length list ≡ count
  pub once : (b : ℕ) → occ b list ≤ 1
  pub listed : (b : ℕ) → occ b list ≢ 0 → ReachableFrom fields roots b
  pub complete : (b : ℕ) → ReachableFrom fields roots b → occ b list ≢ 0
