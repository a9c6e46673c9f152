use Rattle.code_proof.proofs.Jumped.{label_does_nothing}
use Rattle.code_proof.proofs.label_does_nothing.Goals as goal

pub returns : goal.returns
returns c = label_does_nothing
