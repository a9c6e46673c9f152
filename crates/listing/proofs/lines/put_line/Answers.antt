use Rattle.listing.specs.Listing.{line}
use Rattle.text.proofs.Putting.{◌⨟◌}
use Rattle.listing.proofs.lines.put_line.Goals as goal

pub returns : goal.returns
unfolding line
returns c = c.put_decimal-name.ensures ⨟ c.put_spaced_name-operands.ensures ⨟ c.put_operands-end.ensures ⨟ c.put_byte.ensures
