use Rattle.emit.proofs.Laws.{emits_nop}
use Rattle.memory_load_blocks.proofs.load_link.Goals as goal

pub returns-then-other : goal.returns-then-other
returns-then-other c = rw (c.if-other.true, ← c.fst_offset-offset.ensures, ← c.location_of-w.ensures.0) c.load_field.ensures

pub returns-else-other : goal.returns-else-other
returns-else-other c = rw c.if-other.false emits_nop
