use Prim.Native.Nat.{ℕ, ◌+◌, ◌*◌, ◌-◌, ◌≤◌, ◌<◌, ◌^◌}
use mathlib.Core.Path.{◌≡◌}
use mathlib.Core.List.{List}
use lib.ListN.{length}
use Rattle.emit.specs.declared.cursor.Cursor.{Cursor}
use Rattle.emit.specs.Emitted.{Emits}
use Rattle.order_spec.specs.Writes.{copy_to}
use Rattle.order_emit.proofs.emitters.copy_to.Given as goal

abbrev pub invariant-loop-i : goal.invariant-loop-i
invariant-loop-i l = (l.i ≤ l.n)
    × (length l.out ≡ length l.initial.out)
    × (l.q.at + 96 * (l.n - l.i) + 96 < 2 ^ 64)
    × ((o : List ℕ) (r : Cursor) → Emits l.out l.q o r (copy_to l.g l.ext l.a (l.v + l.i) (l.n - l.i)) → Emits l.initial.out l.initial.q o r (copy_to l.g l.ext l.a l.v l.n))
