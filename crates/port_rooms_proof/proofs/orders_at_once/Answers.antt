use Rattle.port_rooms_proof.proofs.Operations.{orders_at_once}
use Rattle.port_rooms_proof.proofs.orders_at_once.Goals as goal

pub returns : goal.returns
returns c = orders_at_once
