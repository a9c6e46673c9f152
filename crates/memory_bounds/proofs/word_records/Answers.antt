use native.Mathlib.Omega.{arith}
use borrow.Author.Tests.{lt-ltb, le-ltb}
use Rattle.memory_bounds.proofs.word_records.Goals as goal

pub returns-then-v-lt6 : goal.returns-then-v-lt6
returns-then-v-lt6 c = (rw (lt-ltb _ 6 c.if-v-lt6.true), omega arith)

pub returns-else-v-lt6 : goal.returns-else-v-lt6
returns-else-v-lt6 c = (rw (le-ltb _ 6 c.if-v-lt6.false), omega arith)
