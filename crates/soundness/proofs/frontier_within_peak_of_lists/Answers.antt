use Rattle.soundness.proofs.Induction.{frontier_within_peak_of_lists}
use Rattle.soundness.proofs.frontier_within_peak_of_lists.Goals as goal

pub returns : goal.returns
returns c = frontier_within_peak_of_lists
