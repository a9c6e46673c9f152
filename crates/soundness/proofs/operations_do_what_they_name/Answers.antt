use Rattle.soundness.proofs.Operating.{operations_do_what_they_name}
use Rattle.soundness.proofs.operations_do_what_they_name.Goals as goal

pub returns : goal.returns
returns c = operations_do_what_they_name
