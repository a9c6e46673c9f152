use borrow.Author.Rules.{rules}
use native.Mathlib.Omega.{arith}
use borrow.Author.Tests.{lt-ltb, le-ltb}
use Rattle.emit.proofs.Laws.{◌⨟◌}
use Rattle.memory.proofs.Sizes.{take_size}
use Rattle.memory.proofs.block.acquire_block.Goals as goal

pub next_block-requires : goal.next_block-requires
next_block-requires c = let d = c.take_block-q.ensures in let z = take_size c.args.g c.args.w in (omega (arith, d.place), omega (arith, d.drawn), search rules)

pub next_block-requires-else-w-lt16 : goal.next_block-requires-else-w-lt16
next_block-requires-else-w-lt16 c = let d = c.take_block-q.ensures in let z = take_size c.args.g c.args.w in (omega (arith, d.place), omega (arith, d.drawn), search rules)

pub returns-then-w-lt16 : goal.returns-then-w-lt16
returns-then-w-lt16 c = c.take_block-q.ensures ⨟ rw (lt-ltb _ 16 c.if-w-lt16.true) c.next_block.ensures

pub returns-else-w-lt16 : goal.returns-else-w-lt16
returns-else-w-lt16 c = c.take_block-q.ensures ⨟ rw (le-ltb _ 16 c.if-w-lt16.false) c.next_block-else-w-lt16.ensures
