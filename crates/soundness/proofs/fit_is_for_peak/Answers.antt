use Rattle.soundness.proofs.Counting.{fit_is_for_peak}
use Rattle.soundness.proofs.fit_is_for_peak.Goals as goal

pub returns : goal.returns
returns c = fit_is_for_peak
