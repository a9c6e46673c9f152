use Rattle.text.proofs.Putting.{◌⨟◌}
use Rattle.report.specs.Counts.{fit_lines}
use Rattle.report.proofs.put_fit.Goals as goal

-- the five counts and the newline, one after the other
pub returns : goal.returns
unfolding fit_lines
returns c = c.put_count-a.ensures ⨟ c.put_count-b.ensures ⨟ c.put_count-c.ensures ⨟ c.put_count-d.ensures ⨟ c.put_count-e.ensures ⨟ c.put_byte.ensures
