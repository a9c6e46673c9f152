use Prim.Native.Nat.{◌-◌, ◌≤◌}
use mathlib.Core.Path.{◌≡◌}
use Rattle.records.specs.Contexts.{ext_at}
use Rattle.memory_load.specs.Linked.{linked_in}
use Rattle.memory_load.proofs.load.linked.Given as goal

abbrev pub invariant-loop-i : goal.invariant-loop-i
invariant-loop-i l = (l.i ≤ l.n) × (l.count ≡ linked_in (ext_at l.kinds) 0 l.i) × (l.count ≤ l.i)

abbrev pub decreases-loop-i : goal.decreases-loop-i
decreases-loop-i l = l.n - l.i
