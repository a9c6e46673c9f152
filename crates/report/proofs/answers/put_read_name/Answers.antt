use mathlib.Core.Path.{sym, ◌∙◌}
use native.Mathlib.Omega.{arith}
use Rattle.text.proofs.Putting.{at_most}
use Rattle.report.specs.Answers.{read_name}
use Rattle.report.proofs.answers.put_read_name.Goals as goal

pub returns-in-Ok : goal.returns-in-Ok
unfolding read_name
returns-in-Ok c = rw (sym c.read_order.ensures.answer ∙ c.in-Ok.is) c.put_name.ensures

pub returns-in-Err : goal.returns-in-Err
unfolding read_name
returns-in-Err c = rw (sym c.read_order.ensures.answer ∙ c.in-Err.is) (at_most c.put_bytes.ensures (omega arith))
