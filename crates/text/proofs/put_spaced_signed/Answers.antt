use Rattle.text.proofs.Putting.{◌⨟◌}
use Rattle.text.proofs.put_spaced_signed.Goals as goal

pub returns : goal.returns
returns c = c.put_byte-next.ensures ⨟ c.put_signed.ensures
