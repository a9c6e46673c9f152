use native.Mathlib.Omega.{arith}
use Rattle.text.proofs.Putting.{at_most}
use Rattle.report_state.specs.Cells.{cell_words}
use Rattle.report_state.proofs.variables.put_value.Goals as goal

pub returns-then-ext : goal.returns-then-ext
unfolding cell_words
returns-then-ext c = rw c.if-ext.true (at_most c.put_integer.ensures (omega arith))

pub returns : goal.returns
unfolding cell_words
returns c = rw c.if-ext.false c.put_object.ensures
