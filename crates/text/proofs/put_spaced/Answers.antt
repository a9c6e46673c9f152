use Rattle.text.proofs.Putting.{◌⨟◌}
use Rattle.text.proofs.put_spaced.Goals as goal

pub returns : goal.returns
returns c = c.put_byte-next.ensures ⨟ c.put_decimal.ensures
