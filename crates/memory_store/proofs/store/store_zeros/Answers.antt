use borrow.Author.Rules.{rules}
use mathlib.Core.Path.{refl}
use native.Mathlib.Omega.{arith}
use native.Mathlib.Nat.{le_antisymm}
use native.Mathlib.Numerals.{add-one}
use Rattle.records.specs.declared.code.Code.TheVariants.{MOVIM}
use Rattle.emit.proofs.Laws.{◌⨟◌, grown, emits_nop}
use Rattle.trees.specs.Tree.{leaf}
use Rattle.layout.specs.Config.{HEAP}
use Rattle.memory.proofs.Sizes.{zeros_size}
use Rattle.memory_store.proofs.store.store_zeros.Goals as goal

pub loop-i-init : goal.loop-i-init
loop-i-init c = (search rules, search rules, emits_nop)

pub emit-q-requires : goal.emit-q-requires
emit-q-requires c = let l = c.loop-i in let d = l.invariant.2 in omega (arith, d.place, zeros_size l.i)

pub loop-i-preserved : goal.loop-i-preserved
loop-i-preserved c = let l = c.loop-i in (search rules, search rules, rw (add-one, ← c.fst_offset-offset.ensures) (l.invariant.2 ⨟ grown (leaf (MOVIM HEAP _ 0) refl) c.emit-q.ensures refl refl))

pub returns : goal.returns
returns c = rw (← (le_antisymm c.loop-i.invariant.0 c.loop-i-test.false)) c.loop-i.invariant.2
