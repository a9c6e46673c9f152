use native.Mathlib.Nat.{le_antisymm}
use Rattle.records.proofs.Matched.{above}
use Rattle.records.specs.Orders.{order_readers, order_of}
use Rattle.records.proofs.order.order_of.Goals as goal

pub returns-in-1 : goal.returns-in-1
unfolding order_readers order_of
returns-in-1 c = rw c.in-1.is

pub returns-in-2 : goal.returns-in-2
unfolding order_readers order_of
returns-in-2 c = rw (c.in-2.is, c.operation_of.ensures)

pub returns-in-3 : goal.returns-in-3
unfolding order_readers order_of
returns-in-3 c = rw c.in-3.is

pub returns-in-4 : goal.returns-in-4
unfolding order_readers order_of
returns-in-4 c = rw c.in-4.is

pub returns-in-5 : goal.returns-in-5
unfolding order_readers order_of
returns-in-5 c = rw c.in-5.is

pub returns-in-6 : goal.returns-in-6
unfolding order_readers order_of
returns-in-6 c = rw c.in-6.is

pub returns-in_default : goal.returns-in_default
unfolding order_readers order_of
returns-in_default c = rw (le_antisymm c.requires.1 (above 6 c.requires.0 c.in_default.in_default-own.rest))
