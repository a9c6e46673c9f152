use mathlib.Core.Path.{refl}
use borrow.Author.Tests.{lt-ltb, le-ltb}
use Rattle.records.specs.declared.code.Code.TheVariants.{MOVL}
use Rattle.trees.specs.Tree.{leaf}
use Rattle.emit.proofs.Laws.{grown, emits_nop}
use Rattle.layout.specs.Config.{STACK, TEMP}
use Rattle.print_i64.proofs.code.source_to_temp.Goals as goal

pub returns-then-w-lt16 : goal.returns-then-w-lt16
returns-then-w-lt16 c = rw (lt-ltb _ 16 c.if-w-lt16.true) emits_nop

pub returns : goal.returns
returns c = rw (le-ltb _ 16 c.if-w-lt16.false, ← c.spill_offset-offset.ensures) (grown (leaf (MOVL TEMP STACK c.spill_offset-offset.result) refl) c.emit.ensures refl refl)
