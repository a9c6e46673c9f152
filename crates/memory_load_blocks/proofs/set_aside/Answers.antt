use mathlib.Core.Path.{refl}
use Rattle.records.specs.declared.code.Code.TheVariants.{MOVS}
use Rattle.emit.proofs.Laws.{grown, emits_nop}
use Rattle.trees.specs.Tree.{leaf}
use Rattle.layout.specs.Config.{STACK, RETURN1}
use Rattle.memory_load_blocks.proofs.set_aside.Goals as goal

pub returns-then-aside : goal.returns-then-aside
returns-then-aside c = rw c.if-aside.true emits_nop

pub returns : goal.returns
returns c = rw (c.if-aside.false, ← c.spill_offset-offset.ensures) (grown (leaf (MOVS RETURN1 STACK _) refl) c.emit.ensures refl refl)
