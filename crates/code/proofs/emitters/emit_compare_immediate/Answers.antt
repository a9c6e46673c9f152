use mathlib.Core.Path.{refl}
use Rattle.records.specs.declared.code.Code.TheVariants.{CMPI, CMPIM}
use Rattle.trees.specs.Tree.{leaf}
use Rattle.emit.proofs.Laws.{grown}
use Rattle.layout.specs.Config.{STACK}
use Rattle.code.proofs.Choices.{on_register, on_spill}
use Rattle.code.proofs.emitters.emit_compare_immediate.Goals as goal

pub returns-then-w-lt16 : goal.returns-then-w-lt16
returns-then-w-lt16 c = on_register _ _ c.if-w-lt16.true (grown (leaf (CMPI _ _) refl) c.emit.ensures refl refl)

pub returns-else-w-lt16 : goal.returns-else-w-lt16
returns-else-w-lt16 c = rw (← c.spill_offset-offset.ensures) (on_spill _ _ c.if-w-lt16.false (grown (leaf (CMPIM STACK _ _) refl) c.emit-else-w-lt16.ensures refl refl))
