use Rattle.code.proofs.Choices.{on_register, on_spill, on_same, on_other}
use Rattle.code.proofs.emitters.emit_subtraction.Goals as goal

pub returns-then-w-x : goal.returns-then-w-x
returns-then-w-x c = on_register _ _ c.if-w-lt16.true (on_same _ _ c.if-w-x.true c.op_to_register.ensures)

pub returns-then-w-y : goal.returns-then-w-y
returns-then-w-y c = on_register _ _ c.if-w-lt16.true (on_other _ _ c.if-w-x.false (on_same _ _ c.if-w-y.true c.through_temp.ensures))

pub returns-then-w-lt16 : goal.returns-then-w-lt16
returns-then-w-lt16 c = on_register _ _ c.if-w-lt16.true (on_other _ _ c.if-w-x.false (on_other _ _ c.if-w-y.false c.into_register.ensures))

pub returns-then-w-x-2 : goal.returns-then-w-x-2
returns-then-w-x-2 c = on_spill _ _ c.if-w-lt16.false (on_same _ _ c.if-w-x-2.true c.op_to_spill.ensures)

pub returns : goal.returns
returns c = on_spill _ _ c.if-w-lt16.false (on_other _ _ c.if-w-x-2.false c.through_temp-2.ensures)
