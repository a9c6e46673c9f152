use Rattle.code_proof.proofs.Ran.{runs_as_it_names}
use Rattle.code_proof.proofs.runs_as_it_names.Goals as goal

pub returns : goal.returns
returns c = runs_as_it_names
