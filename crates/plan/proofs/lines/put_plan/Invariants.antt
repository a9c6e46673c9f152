use Rattle.std.proofs.Common.{◌+◌, ◌*◌, ◌-◌, ◌≤◌, length, drop}
use Rattle.plan_line.specs.Words.{lines_of}
use Rattle.plan.specs.Plan.{plan_from, plan_of}
use Rattle.plan.specs.Steps.{most_line}
use Rattle.plan.proofs.Texts.{Laying}
use Rattle.plan.proofs.lines.put_plan.Given as goal

abbrev pub invariant-loop-at : goal.invariant-loop-at
invariant-loop-at l = (l.at ≤ length l.text) × (l.line ≤ l.at) × Laying (most_line * l.line) l.initial.out l.out l.next (plan_of l.text) (plan_from (l.line + 1) (lines_of (drop l.at l.text)))

abbrev pub decreases-loop-at : goal.decreases-loop-at
decreases-loop-at l = length l.text - l.at
