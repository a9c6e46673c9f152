use Prim.Native.Nat.{ℕ, ◌+◌, ◌*◌, ◌-◌, ◌≤◌, ◌<◌, ◌^◌}
use mathlib.Core.List.{List}
use Rattle.emit.specs.declared.cursor.Cursor.{Cursor}
use Rattle.emit.specs.Emitted.{fields_list, Emitted}
use Rattle.routine.specs.Routine.{move_arguments}
use Rattle.routine.proofs.into_routine.move_arguments.Given as goal

abbrev pub invariant-loop-i : goal.invariant-loop-i
invariant-loop-i l = (1 ≤ l.i)
    × (l.q.at + 24 * (l.i - 1) < 2 ^ 64)
    × ((o : List ℕ) (r : Cursor) → Emitted l.out l.q o r (fields_list (move_arguments (l.i - 1))) 0 → Emitted l.initial.out l.initial.q o r (fields_list (move_arguments l.n)) 0)
