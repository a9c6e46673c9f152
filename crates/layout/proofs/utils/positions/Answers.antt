use Rattle.layout.proofs.Placing.{table_right}
use Rattle.layout.proofs.utils.positions.Goals as goal

pub returns : goal.returns
returns c = table_right
