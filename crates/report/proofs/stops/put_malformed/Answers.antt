use Rattle.text.specs.Text.{digits}
use Rattle.text.proofs.Putting.{◌⨟◌}
use Rattle.report.specs.Stops.{stop_words}
use Rattle.report.proofs.stops.put_malformed.Goals as goal

pub returns : goal.returns
unfolding digits stop_words
returns c = c.put_count-next.ensures ⨟ c.put_bytes.ensures
