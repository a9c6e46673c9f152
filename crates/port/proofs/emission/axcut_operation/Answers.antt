use Rattle.port.proofs.Tells.{tells}
use Rattle.port.proofs.emission.axcut_operation.Goals as goal

pub returns : goal.returns
returns c = rw (← c.operation_numbered-chosen.ensures) (tells c.operate-answer.ensures c.told.ensures)
