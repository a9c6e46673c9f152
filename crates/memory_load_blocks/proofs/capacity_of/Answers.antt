use native.Mathlib.Omega.{arith}
use Rattle.memory_load_blocks.proofs.capacity_of.Goals as goal

pub returns-then-other : goal.returns-then-other
returns-then-other c = (rw c.if-other.true, omega arith)

pub returns-else-other : goal.returns-else-other
returns-else-other c = (rw c.if-other.false, omega arith)
