use Rattle.soundness.proofs.Induction.{frontier_is_peak}
use Rattle.soundness.proofs.frontier_is_peak.Goals as goal

pub returns : goal.returns
returns c = frontier_is_peak
