use Rattle.text.proofs.Putting.{◌⨟◌}
use Rattle.report.proofs.parts.put_count.Goals as goal

pub returns : goal.returns
returns c = c.put_bytes-next.ensures ⨟ c.put_decimal.ensures
