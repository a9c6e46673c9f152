use Rattle.machine_step.proofs.Forms.{register_form, memory_form}
use Rattle.machine_step.proofs.operand.operand.Goals as goal

pub returns-then-form-lt2 : goal.returns-then-form-lt2
returns-then-form-lt2 c = rw (register_form _ _ c.if-form-lt2.true, ← c.register_of-i.ensures.1)

pub returns-then-form-lt4 : goal.returns-then-form-lt4
returns-then-form-lt4 c = rw (memory_form _ _ c.if-form-lt2.false c.if-form-lt4.true, ← c.register_of-i.ensures.1, ← c.sum.ensures) c.load.ensures
