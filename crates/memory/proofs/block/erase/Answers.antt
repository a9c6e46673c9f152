use mathlib.Core.Path.{refl}
use borrow.Author.Tests.{lt-ltb, le-ltb}
use Rattle.records.specs.declared.code.Code.TheVariants.{MOVL}
use Rattle.trees.specs.Tree.{leaf}
use Rattle.emit.proofs.Laws.{◌⨟◌, grown}
use Rattle.layout.specs.Config.{STACK, TEMP}
use Rattle.memory.proofs.block.erase.Goals as goal

pub returns-then-w-lt16 : goal.returns-then-w-lt16
returns-then-w-lt16 c = rw (lt-ltb _ 16 c.if-w-lt16.true) c.erase_register.ensures

pub returns-else-w-lt16 : goal.returns-else-w-lt16
returns-else-w-lt16 c = rw (le-ltb _ 16 c.if-w-lt16.false, ← c.spill_offset-offset.ensures) (grown (leaf (MOVL TEMP STACK _) refl) c.emit-q.ensures refl refl ⨟ c.erase_register-else-w-lt16.ensures)
