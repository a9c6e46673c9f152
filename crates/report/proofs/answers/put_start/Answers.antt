use Rattle.text.proofs.Putting.{◌⨟◌}
use Rattle.report.specs.Answers.{start}
use Rattle.report.proofs.answers.put_start.Goals as goal

pub returns : goal.returns
unfolding start
returns c = c.put_decimal-space.ensures ⨟ c.put_byte-name.ensures ⨟ c.put_read_name-colon.ensures ⨟ c.put_bytes.ensures
