use Rattle.trees_proof.proofs.Trees.{tree_runs_whole}
use Rattle.trees_proof.proofs.tree_runs_whole.Goals as goal

pub returns : goal.returns
returns c = tree_runs_whole
