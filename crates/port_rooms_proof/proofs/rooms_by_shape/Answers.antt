use Rattle.port_rooms_proof.proofs.Filling.{rooms_by_shape}
use Rattle.port_rooms_proof.proofs.rooms_by_shape.Goals as goal

pub returns : goal.returns
returns c = rooms_by_shape
