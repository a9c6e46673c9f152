use borrow.Author.Tests.{eq-eqb, ne_eqb}
use Rattle.print_i64.proofs.registers.two_bits.Goals as goal

pub returns-then-context-v-eq1 : goal.returns-then-context-v-eq1
returns-then-context-v-eq1 c = rw (eq-eqb _ _ c.if-context-v-eq1.true)

pub returns : goal.returns
returns c = rw (ne_eqb _ _ c.if-context-v-eq1.false)
