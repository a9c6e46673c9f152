use Rattle.emit.proofs.Laws.{emits_nop}
use Rattle.memory_load_blocks.proofs.release_unless.Goals as goal

pub returns-then-shared : goal.returns-then-shared
returns-then-shared c = rw c.if-shared.true emits_nop

pub returns : goal.returns
returns c = rw c.if-shared.false c.release_block.ensures
