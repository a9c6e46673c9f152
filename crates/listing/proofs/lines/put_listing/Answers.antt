use native.Mathlib.Omega.{arith}
use Rattle.listing.specs.Listing.{listing}
use Rattle.listing.proofs.Accepted.{few_records}
use Rattle.text.proofs.Putting.{at_most, ◌⨟◌}
use Rattle.listing.proofs.lines.put_listing.Goals as goal

pub put_lines-requires : goal.put_lines-requires
unfolding listing
put_lines-requires c = (c.requires, omega (arith, few_records _ _ c.requires))

pub returns : goal.returns
unfolding listing
returns c = at_most (c.put_decimal-word.ensures ⨟ c.put_bytes-lines.ensures ⨟ c.put_lines.ensures) (omega (arith, few_records _ _ c.requires))
