use borrow.Author.Tests.{le-ltb, lt-ltb}
use native.Mathlib.Omega.{arith}
use Rattle.memory_load_blocks.proofs.Blocks.{not_below}
use Rattle.memory_load_blocks.proofs.freed_before.Goals as goal

pub returns-then-n-eq0 : goal.returns-then-n-eq0
returns-then-n-eq0 c = rw (le-ltb 0 c.args.n (omega arith))

pub returns : goal.returns
returns c = rw (lt-ltb 0 c.args.n (omega arith), ← c.saturating_sub-rest.ensures, ← c.location_of.ensures.0) (not_below 16 _)
