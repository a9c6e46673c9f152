use Rattle.code.proofs.Choices.{on_register, on_spill}
use Rattle.code.proofs.Numbered.{register_register_lem, register_spill_lem}
use Rattle.code.proofs.parts.op_to_register.Goals as goal

pub returns-then-w-lt16 : goal.returns-then-w-lt16
returns-then-w-lt16 c = on_register _ _ c.if-w-lt16.true (register_register_lem c.args.n c.code_number-code.ensures.0 _ _ c.emit.ensures)

pub returns-else-w-lt16 : goal.returns-else-w-lt16
returns-else-w-lt16 c = rw (← c.spill_offset-offset.ensures) (on_spill _ _ c.if-w-lt16.false (register_spill_lem c.args.n c.code_number-code.ensures.0 _ _ c.emit-else-w-lt16.ensures))
