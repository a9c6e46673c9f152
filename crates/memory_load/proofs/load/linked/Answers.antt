use mathlib.Core.Path.{refl}
use native.Mathlib.Nat.{le_antisymm, zero-add}
use native.Mathlib.Numerals.{add-one}
use native.Mathlib.Omega.{arith}
use Rattle.memory_load.proofs.load.linked.Goals as goal

pub loop-i-init : goal.loop-i-init
loop-i-init c = (omega arith, refl, omega arith)

pub loop-i-preserved : goal.loop-i-preserved
loop-i-preserved c = let l = c.loop-i in (omega arith, rw (add-one, zero-add l.i, l.invariant.1, c.one_if_linked-count.ensures.0, c.is_ext-ext.ensures), omega arith)

pub returns : goal.returns
returns c = let l = c.loop-i in rw (← (le_antisymm l.invariant.0 c.loop-i-test.false)) (l.invariant.1, l.invariant.2)
