use Rattle.text.proofs.Putting.{◌⨟◌}
use Rattle.report_state.specs.Cells.{cell_line}
use Rattle.report_state.proofs.variables.put_cell.Goals as goal

pub returns : goal.returns
unfolding cell_line
returns c = c.put_decimal-value.ensures ⨟ c.put_value-end.ensures ⨟ c.put_byte.ensures
