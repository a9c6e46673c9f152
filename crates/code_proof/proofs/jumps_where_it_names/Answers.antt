use Rattle.code_proof.proofs.Jumped.{jumps_where_it_names}
use Rattle.code_proof.proofs.jumps_where_it_names.Goals as goal

pub returns : goal.returns
returns c = jumps_where_it_names
