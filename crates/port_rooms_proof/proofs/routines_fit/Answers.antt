use Rattle.port_rooms_proof.proofs.Routines.{no_room_wanted}
use Rattle.port_rooms_proof.proofs.routines_fit.Goals as goal

pub returns : goal.returns
returns c = no_room_wanted
