use native.Mathlib.Omega.{arith}
use borrow.Author.Tests.{lt-ltb, le-ltb}
use Rattle.layout.specs.Positions.{location}
use Rattle.layout.proofs.utils.location_of.Goals as goal

pub returns-then-p-lt12 : goal.returns-then-p-lt12
unfolding location
returns-then-p-lt12 c = (rw (lt-ltb _ 12 c.if-p-lt12.true), omega arith)

pub returns-else-p-lt12 : goal.returns-else-p-lt12
unfolding location
returns-else-p-lt12 c = (rw (le-ltb _ 12 c.if-p-lt12.false), omega arith)
