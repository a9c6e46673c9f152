use mathlib.Core.Path.{sym, ◌∙◌}
use native.Mathlib.Omega.{arith}
use Rattle.text.specs.Text.{digits}
use Rattle.text.proofs.Putting.{at_most, ◌⨟◌}
use Rattle.layout.proofs.Placing.{framed_supported}
use Rattle.report.specs.Answers.{position_words, cause_words, separator, refusal}
use Rattle.report.proofs.answers.put_position.Goals as goal

pub put_last-requires : goal.put_last-requires
unfolding digits position_words cause_words separator refusal
put_last-requires c = (omega (arith, c.put_bytes-next.ensures), framed_supported _ (sym c.frame_of.ensures ∙ c.in-Some.is))

pub returns-in-Some : goal.returns-in-Some
unfolding digits position_words cause_words separator refusal
returns-in-Some c = rw (sym c.frame_of.ensures ∙ c.in-Some.is) (c.put_bytes-next.ensures ⨟ c.put_last.ensures)

pub returns-in-None : goal.returns-in-None
unfolding digits position_words cause_words separator refusal
returns-in-None c = rw (sym c.frame_of.ensures ∙ c.in-None.is) (at_most c.put_bytes-next.ensures (omega arith))
