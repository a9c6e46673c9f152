use mathlib.Core.Path.{sym, ◌∙◌}
use native.Mathlib.Omega.{arith}
use Rattle.text.proofs.Putting.{nothing, at_most}
use Rattle.report_state.specs.Prints.{prints}
use Rattle.report_state.proofs.prints.put_print_in.Goals as goal

pub returns-in-Ok : goal.returns-in-Ok
unfolding prints
returns-in-Ok c = rw (sym c.read_order.ensures.answer ∙ c.in-Ok.is) c.put_whole.ensures

pub returns-in-Err : goal.returns-in-Err
unfolding prints
returns-in-Err c = rw (sym c.read_order.ensures.answer ∙ c.in-Err.is) (at_most (nothing _ _) (omega arith))
