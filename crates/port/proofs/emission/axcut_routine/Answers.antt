use Rattle.port.proofs.Tells.{tells_routine}
use Rattle.port.proofs.emission.axcut_routine.Goals as goal

pub returns : goal.returns
returns c = tells_routine c.into_x86_64_routine-answer.ensures c.told.ensures
