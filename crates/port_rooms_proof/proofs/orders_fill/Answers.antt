use Rattle.port_rooms_proof.proofs.Filling.{orders_fill}
use Rattle.port_rooms_proof.proofs.orders_fill.Goals as goal

pub returns : goal.returns
returns c = orders_fill
