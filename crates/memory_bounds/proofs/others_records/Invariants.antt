use Prim.Native.Nat.{◌+◌, ◌*◌, ◌-◌, ◌≤◌}
use mathlib.Core.Path.{◌≡◌}
use Rattle.trees.specs.Tree.{size}
use Rattle.memory.specs.Objects.{store_others}
use Rattle.memory_bounds.specs.Bounds.{linked}
use Rattle.memory_bounds.proofs.others_records.Given as goal

abbrev pub invariant-loop : goal.invariant-loop
invariant-loop l = (l.left ≤ l.n)
    × (l.total ≤ 65536 * l.counter)
    × (l.total + size (store_others l.g linked (l.m - l.counter) l.v l.left) ≡ size (store_others l.g linked l.m l.v l.n))
