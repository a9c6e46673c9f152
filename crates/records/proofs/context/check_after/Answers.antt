use native.Mathlib.Omega.{arith}
use Rattle.records.proofs.Answers.{answers_by}
use Rattle.records.proofs.ContextsRead.{part_binding, too_many, by_binding}
use Rattle.records.proofs.context.check_after.Goals as goal

pub returns-then-s-ne0 : goal.returns-then-s-ne0
returns-then-s-ne0 c = answers_by (part_binding _ _ c.if-s-ne0.true)

pub returns-then-s-gt32768 : goal.returns-then-s-gt32768
returns-then-s-gt32768 c = answers_by (too_many _ _ c.if-s-ne0.false c.if-s-gt32768.true)

pub returns : goal.returns
returns c = answers_by (by_binding _ _ c.if-s-ne0.false (omega arith) c.first_flaw.ensures)
