use Rattle.port_rooms_proof.specs.Claims.{ListingsFit}
use Rattle.port_rooms_proof.proofs.Lines.{text_fits, no_room_wanted}
use Rattle.port_rooms_proof.proofs.listings_fit.Goals as goal

holds : ListingsFit
holds = record { text_fits = text_fits; enough_room = no_room_wanted }

pub returns : goal.returns
returns c = holds
