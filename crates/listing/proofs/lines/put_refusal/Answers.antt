use Rattle.text.specs.Text.{digits}
use Rattle.text.proofs.Putting.{◌⨟◌}
use Rattle.listing.specs.Listing.{listing_refusal}
use Rattle.listing.proofs.lines.put_refusal.Goals as goal

pub returns : goal.returns
unfolding listing_refusal digits
returns c = c.put_bytes-at.ensures ⨟ c.put_decimal-end.ensures ⨟ c.put_byte.ensures
