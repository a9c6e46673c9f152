use Rattle.soundness.proofs.Induction.{every_shape_stays_sound}
use Rattle.soundness.proofs.every_shape_stays_sound.Goals as goal

pub returns : goal.returns
returns c = every_shape_stays_sound
