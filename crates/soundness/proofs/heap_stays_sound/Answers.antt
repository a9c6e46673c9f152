use Rattle.soundness.proofs.Induction.{heap_stays_sound}
use Rattle.soundness.proofs.heap_stays_sound.Goals as goal

pub returns : goal.returns
returns c = heap_stays_sound
