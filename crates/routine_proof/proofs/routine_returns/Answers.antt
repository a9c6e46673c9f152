use Rattle.routine_proof.proofs.Framed.{routine_returns}
use Rattle.routine_proof.proofs.routine_returns.Goals as goal

pub returns : goal.returns
returns c = routine_returns
