use Rattle.records.proofs.Answers.{answers_by}
use Rattle.layout.proofs.Placing.{position_none, position_operand}
use Rattle.layout.proofs.utils.position_in.Goals as goal

pub returns-then-g-p : goal.returns-then-g-p
returns-then-g-p c = answers_by (position_none _ _ c.if-g-p.true)

pub returns : goal.returns
returns c = answers_by (position_operand _ _ c.if-g-p.false c.location_at.ensures.0)
