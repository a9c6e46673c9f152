use Rattle.heap.proofs.Example.{runs_exist}
use Rattle.heap.proofs.runs_exist.Goals as goal

pub returns : goal.returns
returns c = runs_exist
