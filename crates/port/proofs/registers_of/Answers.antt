use Rattle.port.proofs.registers_of.Goals as goal

pub returns-then-fresh : goal.returns-then-fresh
returns-then-fresh c = rw c.if-fresh.true c.fresh_registers.ensures

pub returns-else-fresh : goal.returns-else-fresh
returns-else-fresh c = rw c.if-fresh.false c.entry_registers.ensures
