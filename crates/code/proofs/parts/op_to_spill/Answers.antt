use mathlib.Core.Path.{refl}
use Rattle.records.specs.declared.code.Code.TheVariants.{MOVL}
use Rattle.trees.specs.Tree.{leaf}
use Rattle.emit.proofs.Laws.{◌⨟◌, grown}
use Rattle.layout.specs.Config.{STACK, TEMP}
use Rattle.code.proofs.Choices.{on_register, on_spill}
use Rattle.code.proofs.Numbered.{spill_register_lem}
use Rattle.code.proofs.parts.op_to_spill.Goals as goal

pub returns-then-x-lt16 : goal.returns-then-x-lt16
returns-then-x-lt16 c = rw (← c.spill_offset-offset.ensures) (on_register _ _ c.if-x-lt16.true (spill_register_lem c.args.n c.code_number-code.ensures.0 _ _ c.emit.ensures))

pub returns-else-x-lt16 : goal.returns-else-x-lt16
returns-else-x-lt16 c = rw (← c.spill_offset-offset.ensures, ← c.spill_offset-source.ensures) (on_spill _ _ c.if-x-lt16.false (grown (leaf (MOVL TEMP STACK _) refl) c.emit-q.ensures refl refl ⨟ spill_register_lem c.args.n c.code_number-code.ensures.0 _ _ c.emit-else-x-lt16.ensures))
