use Rattle.text.specs.Text.{digits}
use Rattle.text.proofs.Putting.{◌⨟◌}
use Rattle.report.specs.Answers.{cause_words, cause_value, separator, refusal}
use Rattle.report.proofs.answers.put_malformed.Goals as goal

pub returns : goal.returns
unfolding digits cause_words cause_value separator refusal
returns c = λ frame. c.put_count-next.ensures ⨟ c.put_bytes.ensures
