use Rattle.records.proofs.Flaws.{bad_bindings_are_told}
use Rattle.records.proofs.bad_bindings_are_told.Goals as goal

pub returns : goal.returns
returns c = bad_bindings_are_told
