use native.Mathlib.Omega.{arith}
use Rattle.text.specs.Text.{digits}
use Rattle.text.proofs.Putting.{at_most}
use Rattle.report.specs.Answers.{cause_words, cause_value, separator, refusal}
use Rattle.report.proofs.answers.put_flaw.Goals as goal

pub returns-in-Length : goal.returns-in-Length
unfolding digits cause_words cause_value separator refusal
returns-in-Length c = λ frame. rw c.in-Length.is (at_most c.put_bytes.ensures (omega arith))

pub returns-in-Mark : goal.returns-in-Mark
unfolding digits cause_words cause_value separator refusal
returns-in-Mark c = λ frame. rw c.in-Mark.is c.put_binding.ensures

pub returns-in-Kind : goal.returns-in-Kind
unfolding digits cause_words cause_value separator refusal
returns-in-Kind c = λ frame. rw c.in-Kind.is c.put_binding-in-Kind.ensures
