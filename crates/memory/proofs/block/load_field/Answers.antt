use mathlib.Core.Path.{refl}
use borrow.Author.Tests.{lt-ltb, le-ltb}
use Rattle.records.specs.declared.code.Code.TheVariants.{MOVS, MOVL}
use Rattle.emit.proofs.Laws.{grown}
use Rattle.trees.specs.Tree.{leaf, seq}
use Rattle.layout.specs.Config.{STACK, TEMP}
use Rattle.memory.proofs.block.load_field.Goals as goal

pub returns-then-w-lt16 : goal.returns-then-w-lt16
returns-then-w-lt16 c = rw (lt-ltb _ 16 c.if-w-lt16.true) (grown (leaf (MOVL _ _ _) refl) c.emit.ensures refl refl)

pub returns-else-w-lt16 : goal.returns-else-w-lt16
returns-else-w-lt16 c = rw (le-ltb _ 16 c.if-w-lt16.false, ← c.spill_offset-to.ensures) (grown (seq (leaf (MOVL TEMP _ _) refl) (leaf (MOVS TEMP STACK _) refl)) c.emit2.ensures refl refl)
