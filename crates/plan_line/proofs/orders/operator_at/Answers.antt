use Rattle.std.proofs.Common.{◌∙◌}
use Rattle.plan_line.specs.Orders.{operator_at}
use Rattle.plan_line.proofs.Digits.{handed_on}
use Rattle.plan_line.proofs.orders.operator_at.Goals as goal

pub returns-in_err-word : goal.returns-in_err-word
unfolding operator_at
returns-in_err-word c = let h = c.in_err-word.ensures in handed_on c.from_residual.result c.from_residual.ensures.1 ∙ rw (h.words, h.missing)

pub returns : goal.returns
unfolding operator_at
returns c = rw c.in_ok-word.ensures.words c.operator_of.ensures
