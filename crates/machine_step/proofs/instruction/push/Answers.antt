use Rattle.machine_step.proofs.Instructions.{push_goes, push_stops}
use Rattle.machine_step.proofs.instruction.push.Goals as goal

pub returns-then-store : goal.returns-then-store
returns-then-store c = push_goes c.args.registers.now c.args.stack.now c.args.heap.now c.args.pair c.requires.1 c.args.a c.difference-address.ensures c.store.ensures.0 c.store.ensures.1 c.if-store.true

pub returns-else-store : goal.returns-else-store
returns-else-store c = push_stops c.args.registers.now c.args.stack.now c.args.heap.now c.args.pair c.requires.1 c.args.a c.difference-address.ensures c.store.ensures.0 c.store.ensures.1 c.if-store.false
