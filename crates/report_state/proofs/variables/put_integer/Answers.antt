use Rattle.text.proofs.Putting.{◌⨟◌}
use Rattle.report_state.proofs.variables.put_integer.Goals as goal

pub returns : goal.returns
returns c = c.put_bytes-next.ensures ⨟ c.put_signed.ensures
