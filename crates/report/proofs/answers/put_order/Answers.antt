use Rattle.text.proofs.Putting.{◌⨟◌}
use Rattle.report.specs.Answers.{order_line}
use Rattle.report.proofs.answers.put_order.Goals as goal

pub returns : goal.returns
unfolding order_line
returns c = c.put_start-said.ensures ⨟ c.put_outcome-end.ensures ⨟ c.put_byte.ensures
