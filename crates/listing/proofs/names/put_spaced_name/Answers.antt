use Rattle.std.proofs.Common.{arith}
use Rattle.listing.specs.Names.{code_names}
use Rattle.listing.proofs.NameTable.{name_short, part_short, puts_name}
use Rattle.text.proofs.Putting.{◌⨟◌}
use Rattle.listing.proofs.names.put_spaced_name.Goals as goal

pub slice_bounds-put_bytes-end : goal.slice_bounds-put_bytes-end
unfolding code_names
slice_bounds-put_bytes-end c = omega (arith, name_short _ c.requires.0 c.requires.1 c.from.ensures c.from-2.ensures)

pub put_bytes-requires : goal.put_bytes-requires
unfolding code_names
put_bytes-requires c = omega (arith, part_short _ c.requires.0 c.requires.1 c.from.ensures c.from-2.ensures)

pub returns : goal.returns
unfolding code_names
returns c = c.put_byte-next.ensures ⨟ puts_name _ c.requires.0 c.requires.1 c.from.ensures c.from-2.ensures c.put_bytes.ensures
