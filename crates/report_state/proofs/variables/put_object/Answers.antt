use Rattle.text.proofs.Putting.{◌⨟◌}
use Rattle.report_state.proofs.variables.put_object.Goals as goal

pub returns : goal.returns
returns c = c.put_bytes-tagged.ensures ⨟ c.put_signed-next.ensures ⨟ c.put_block.ensures
