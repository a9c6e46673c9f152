use mathlib.Core.Path.{refl}
use Rattle.records.specs.declared.code.Code.TheVariants.{MOVL}
use Rattle.emit.proofs.Laws.{grown, emits_nop}
use Rattle.trees.specs.Tree.{leaf}
use Rattle.layout.specs.Config.{STACK, RETURN1}
use Rattle.memory_load_blocks.proofs.restore_aside.Goals as goal

pub returns-then-other : goal.returns-then-other
returns-then-other c = rw c.if-other.true emits_nop

pub returns : goal.returns
returns c = rw (c.if-other.false, ← c.spill_offset-offset.ensures) (grown (leaf (MOVL RETURN1 STACK _) refl) c.emit.ensures refl refl)
