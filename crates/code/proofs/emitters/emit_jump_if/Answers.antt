use Rattle.code.proofs.Listed.{jump_fields}
use Rattle.code.proofs.emitters.emit_jump_if.Goals as goal

pub returns : goal.returns
returns c = rw (c.condition_number-code.ensures, jump_fields) at c.emit.ensures
