use mathlib.Core.Path.{refl}
use borrow.Author.Tests.{lt-ltb, le-ltb}
use Rattle.records.specs.declared.code.Code.TheVariants.{MOVL}
use Rattle.trees.specs.Tree.{leaf}
use Rattle.emit.proofs.Laws.{grown, emits_nop}
use Rattle.layout.specs.Config.{STACK, TEMP}
use Rattle.memory_load.proofs.load.into_register.Goals as goal

pub returns-then-w-lt16 : goal.returns-then-w-lt16
returns-then-w-lt16 c = rw (lt-ltb _ 16 c.if-w-lt16.true) emits_nop

pub returns : goal.returns
returns c = rw (le-ltb _ 16 c.if-w-lt16.false, ← c.spill_offset-offset.ensures) (grown (leaf (MOVL TEMP STACK _) refl) c.emit.ensures refl refl)
