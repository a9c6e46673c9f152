use Rattle.soundness.proofs.Counting.{counts_are_true}
use Rattle.soundness.proofs.counts_are_true.Goals as goal

pub returns : goal.returns
returns c = counts_are_true
