use Rattle.listing.specs.Listing.{operands_text}
use Rattle.text.proofs.Putting.{◌⨟◌}
use Rattle.listing.proofs.lines.put_operands.Goals as goal

pub returns : goal.returns
unfolding operands_text
returns c = c.put_spaced-a.ensures ⨟ c.put_spaced-b.ensures ⨟ c.put_spaced-label.ensures ⨟ c.put_spaced_signed-offset.ensures ⨟ c.put_spaced_signed.ensures
