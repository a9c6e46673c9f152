use borrow.Author.Tests.{lt-ltb, le-ltb}
use Rattle.emit.proofs.Laws.{emits_nop}
use Rattle.memory_load_blocks.proofs.share_loaded.Goals as goal

pub returns-then-w-lt16 : goal.returns-then-w-lt16
returns-then-w-lt16 c = rw (c.if-shared.true, lt-ltb _ 16 c.if-w-lt16.true) c.share_register.ensures

pub returns-else-w-lt16 : goal.returns-else-w-lt16
returns-else-w-lt16 c = rw (c.if-shared.true, le-ltb _ 16 c.if-w-lt16.false) c.share_register-else-w-lt16.ensures

pub returns-else-shared : goal.returns-else-shared
returns-else-shared c = rw c.if-shared.false emits_nop
