use Rattle.soundness.proofs.Fitting.{peak_is_enough}
use Rattle.soundness.proofs.peak_is_enough.Goals as goal

pub returns : goal.returns
returns c = peak_is_enough
