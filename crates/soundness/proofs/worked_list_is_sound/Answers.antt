use Rattle.soundness.proofs.Example.{worked_list_is_sound}
use Rattle.soundness.proofs.worked_list_is_sound.Goals as goal

pub returns : goal.returns
returns c = worked_list_is_sound
