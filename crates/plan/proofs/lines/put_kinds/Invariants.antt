use Rattle.std.proofs.Common.{◌*◌, ◌-◌, ◌≤◌, length, take, drop}
use Rattle.plan_line.specs.Words.{words_in}
use Rattle.plan.specs.Plan.{bindings}
use Rattle.plan.proofs.Putting.{Begun}
use Rattle.plan.proofs.lines.put_kinds.Given as goal

abbrev pub invariant-loop-id : goal.invariant-loop-id
invariant-loop-id l = (l.i ≤ length l.line)
    × Begun (8 * l.id) l.initial.out l.at l.out l.next (bindings 0 (take l.n (words_in (drop l.from l.line)))) (bindings l.id (take (l.n - l.id) (words_in (drop l.i l.line))))
