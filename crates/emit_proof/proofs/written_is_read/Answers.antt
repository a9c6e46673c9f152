use Rattle.emit_proof.proofs.Written.{written_is_read}
use Rattle.emit_proof.proofs.written_is_read.Goals as goal

pub returns : goal.returns
returns c = written_is_read
