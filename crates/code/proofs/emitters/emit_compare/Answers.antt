use mathlib.Core.Path.{refl}
use Rattle.records.specs.declared.code.Code.TheVariants.{CMP, CMPRM, CMPMR, MOVL}
use Rattle.trees.specs.Tree.{leaf, seq}
use Rattle.emit.proofs.Laws.{grown}
use Rattle.layout.specs.Config.{STACK, TEMP}
use Rattle.code.proofs.Choices.{on_register, on_spill}
use Rattle.code.proofs.emitters.emit_compare.Goals as goal

pub returns-then-y-lt16 : goal.returns-then-y-lt16
returns-then-y-lt16 c = on_register _ _ c.if-x-lt16.true (on_register _ _ c.if-y-lt16.true (grown (leaf (CMP _ _) refl) c.emit.ensures refl refl))

pub returns-then-x-lt16 : goal.returns-then-x-lt16
returns-then-x-lt16 c = rw (← c.spill_offset-offset.ensures) (on_register _ _ c.if-x-lt16.true (on_spill _ _ c.if-y-lt16.false (grown (leaf (CMPRM _ STACK _) refl) c.emit-then-x-lt16.ensures refl refl)))

pub returns-then-y-lt16-2 : goal.returns-then-y-lt16-2
returns-then-y-lt16-2 c = rw (← c.spill_offset-first.ensures) (on_spill _ _ c.if-x-lt16.false (on_register _ _ c.if-y-lt16-2.true (grown (leaf (CMPMR STACK _ _) refl) c.emit-then-y-lt16-2.ensures refl refl)))

pub returns : goal.returns
returns c = rw (← c.spill_offset-first.ensures, ← c.spill_offset-second.ensures) (on_spill _ _ c.if-x-lt16.false (on_spill _ _ c.if-y-lt16-2.false (grown (seq (leaf (MOVL TEMP STACK _) refl) (leaf (CMPRM TEMP STACK _) refl)) c.emit2.ensures refl refl)))
