use borrow.Author.Tests.{ne_eqb}
use Rattle.port.specs.Check.{check_numbers}
use Rattle.port.proofs.check.axcut_check.Goals as goal

pub returns-in-1 : goal.returns-in-1
unfolding check_numbers
returns-in-1 c = rw c.in-1.is c.check_context.ensures

pub returns-in-2 : goal.returns-in-2
unfolding check_numbers
returns-in-2 c = rw c.in-2.is c.check_records.ensures

pub returns-in-3 : goal.returns-in-3
unfolding check_numbers
returns-in-3 c = rw c.in-3.is c.check_order.ensures

pub returns-in_default : goal.returns-in_default
unfolding check_numbers
returns-in_default c = let r = c.in_default.in_default-own.rest in rw (ne_eqb _ 1 r.0.0.1, ne_eqb _ 2 r.0.1, ne_eqb _ 3 r.1)
