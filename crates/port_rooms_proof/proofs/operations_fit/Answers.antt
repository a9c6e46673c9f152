use Rattle.port_rooms_proof.proofs.Operations.{operations_fit}
use Rattle.port_rooms_proof.proofs.operations_fit.Goals as goal

pub returns : goal.returns
returns c = operations_fit
