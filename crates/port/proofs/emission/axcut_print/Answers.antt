use Rattle.port.proofs.Tells.{tells}
use Rattle.port.proofs.emission.axcut_print.Goals as goal

pub returns : goal.returns
returns c = tells c.print_i64-answer.ensures c.told.ensures
