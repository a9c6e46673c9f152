use Rattle.machine_step.proofs.Seeing.{assigns_register, assigns_memory}
use Rattle.machine_step.proofs.Forms.{register_form, memory_form}
use Rattle.machine_step.proofs.operand.assign.Goals as goal

pub returns-then-form-lt2 : goal.returns-then-form-lt2
returns-then-form-lt2 c = let e = c.register_of-i.ensures in rw (register_form _ _ c.if-form-lt2.true, ← e.1) (assigns_register c.args.registers.now c.args.stack.now c.args.heap.now _ c.args.v c.requires.2 e.0)

pub returns-then-form-lt4 : goal.returns-then-form-lt4
returns-then-form-lt4 c = rw (memory_form _ _ c.if-form-lt2.false c.if-form-lt4.true, ← c.register_of-i.ensures.1, ← c.sum.ensures) (assigns_memory c.args.registers.now c.args.stack.now c.requires.2 c.store.ensures.0 (c.store.ensures.1 c.args.registers.now))
