use Rattle.soundness.proofs.Printing.{printed_is_called}
use Rattle.soundness.proofs.printed_is_called.Goals as goal

pub returns : goal.returns
returns c = printed_is_called
