use Rattle.port_rooms_proof.proofs.LongestListing.{listings_fill}
use Rattle.port_rooms_proof.proofs.listings_fill.Goals as goal

pub returns : goal.returns
returns c = listings_fill
