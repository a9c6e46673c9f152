use Rattle.soundness.proofs.Operating.{operations_do_what_they_name_on_acquired}
use Rattle.soundness.proofs.operations_do_what_they_name_on_acquired.Goals as goal

pub returns : goal.returns
returns c = operations_do_what_they_name_on_acquired
