use native.Mathlib.Omega.{arith}
use Rattle.text.proofs.Putting.{at_most, ◌⨟◌}
use Rattle.report_state.specs.Prints.{printed_text}
use Rattle.report_state.proofs.prints.put_printed.Goals as goal

pub returns-then-newline : goal.returns-then-newline
unfolding printed_text
returns-then-newline c = rw c.if-newline.true (c.put_signed-next.ensures ⨟ c.put_byte.ensures)

pub returns : goal.returns
unfolding printed_text
returns c = rw c.if-newline.false (at_most c.put_signed-next.ensures (omega arith))
