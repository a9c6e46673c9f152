use borrow.Author.Rules.{rules}
use native.Mathlib.Omega.{arith}
use native.Mathlib.Nat.{le_antisymm}
use native.Mathlib.Numerals.{add-one}
use Rattle.emit.proofs.Laws.{◌⨟◌, emits_nop}
use Rattle.memory.proofs.Flattened.{fields_size}
use Rattle.memory.proofs.block.erase_fields.Goals as goal

pub loop-i-init : goal.loop-i-init
loop-i-init c = (search rules, search rules, emits_nop)

pub erase_child-q-requires : goal.erase_child-q-requires
erase_child-q-requires c = let l = c.loop-i in let d = l.invariant.2 in let z = fields_size l.i in (omega (arith, d.place), omega (arith, d.drawn), omega arith)

pub loop-i-preserved : goal.loop-i-preserved
loop-i-preserved c = let l = c.loop-i in (search rules, search rules, rw add-one (l.invariant.2 ⨟ c.erase_child-q.ensures))

pub returns : goal.returns
returns c = rw (← (le_antisymm c.loop-i.invariant.0 c.loop-i-test.false)) c.loop-i.invariant.2
