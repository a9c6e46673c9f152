use borrow.Author.Tests.{lt-ltb, le-ltb}
use Rattle.memory_load_blocks.proofs.block_register.Goals as goal

pub returns-then-w-lt16 : goal.returns-then-w-lt16
returns-then-w-lt16 c = rw (lt-ltb _ 16 c.if-w-lt16.true)

pub returns-else-w-lt16 : goal.returns-else-w-lt16
returns-else-w-lt16 c = rw (le-ltb _ 16 c.if-w-lt16.false)
