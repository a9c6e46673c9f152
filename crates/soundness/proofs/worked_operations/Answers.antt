use Rattle.soundness.proofs.Operated.{worked_operations}
use Rattle.soundness.proofs.worked_operations.Goals as goal

pub returns : goal.returns
returns c = worked_operations
