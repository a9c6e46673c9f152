use Rattle.soundness.proofs.Induction.{heap_stays_sound_on_acquired}
use Rattle.soundness.proofs.heap_stays_sound_on_acquired.Goals as goal

pub returns : goal.returns
returns c = heap_stays_sound_on_acquired
