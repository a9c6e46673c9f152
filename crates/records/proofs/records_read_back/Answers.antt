use Rattle.records.proofs.ReadBack.{records_read_back}
use Rattle.records.proofs.records_read_back.Goals as goal

pub returns : goal.returns
returns c = records_read_back
