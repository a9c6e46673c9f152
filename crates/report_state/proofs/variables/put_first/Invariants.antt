use Prim.Native.Nat.{◌*◌, ◌≤◌}
use Rattle.text.specs.Putting.{Puts}
use Rattle.report_state.specs.Cells.{first_lines}
use Rattle.report_state.proofs.variables.put_first.Given as goal

abbrev pub invariant-loop-k : goal.invariant-loop-k
invariant-loop-k l = (l.k ≤ l.count) × Puts (83 * l.k) l.initial.text l.at l.text l.next (first_lines l.g l.context l.registers l.stack l.k)
