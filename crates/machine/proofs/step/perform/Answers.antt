use Rattle.machine.specs.Tables.{performed}
use Rattle.machine.proofs.step.perform.Goals as goal

pub returns-in-6 : goal.returns-in-6
unfolding performed
returns-in-6 c = rw c.in-6.is (c.extend.ensures c.args.stack.now c.args.heap.now)

pub returns-in-8 : goal.returns-in-8
unfolding performed
returns-in-8 c = rw c.in-8.is (c.branch-t.ensures c.args.registers.now c.args.stack.now c.args.heap.now c.requires.2)

pub returns-in-11 : goal.returns-in-11
unfolding performed
returns-in-11 c = rw c.in-11.is (c.call.ensures c.args.stack.now c.args.heap.now)

pub returns-in-12 : goal.returns-in-12
unfolding performed
returns-in-12 c = rw c.in-12.is (c.finish.ensures c.args.stack.now c.args.heap.now)
