use Rattle.port.proofs.Tells.{tells}
use Rattle.port.proofs.emission.axcut_memory.Goals as goal

pub returns : goal.returns
returns c = let m = c.memory-answer.ensures in record { answer = tells m c.told.ensures; counter = rw (← m.answer) c.counter_after.ensures }
