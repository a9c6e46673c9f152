use Prim.Native.Nat.{◌-◌, ◌≤◌}
use mathlib.Core.Path.{◌≡◌}
use lib.ListN.{length}
use Rattle.emit.specs.Emitted.{Emits}
use Rattle.memory.specs.Objects.{store_zeros}
use Rattle.memory_store.proofs.store.store_zeros.Given as goal

abbrev pub invariant-loop-i : goal.invariant-loop-i
invariant-loop-i l = (l.i ≤ l.n) × (length l.out ≡ length l.initial.out) × Emits l.initial.out l.initial.q l.out l.q (store_zeros l.i)

abbrev pub decreases-loop-i : goal.decreases-loop-i
decreases-loop-i l = l.n - l.i
