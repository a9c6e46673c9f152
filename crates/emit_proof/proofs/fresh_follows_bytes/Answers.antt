use Rattle.emit_proof.proofs.Setup.{fresh_follows_bytes}
use Rattle.emit_proof.proofs.fresh_follows_bytes.Goals as goal

pub returns : goal.returns
returns c = fresh_follows_bytes
