use Rattle.routine.proofs.Assembling.{routine_records}
use Rattle.routine.proofs.routine_is_records.Goals as goal

pub returns : goal.returns
returns c = routine_records
