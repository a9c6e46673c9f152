use native.Mathlib.Nat.{le_antisymm}
use Rattle.records.specs.Orders.{order_readers, order_of, used_by_order, largest_in_order}
use Rattle.records.proofs.Matched.{above}
use Rattle.records.proofs.order.most_in.Goals as goal

pub returns-in-1 : goal.returns-in-1
unfolding order_readers order_of used_by_order largest_in_order
returns-in-1 c = rw (c.of.ensures, c.in-1.is)

pub returns-in-2 : goal.returns-in-2
unfolding order_readers order_of used_by_order largest_in_order
returns-in-2 c = rw (c.of-in-2.ensures, c.in-2.is)

pub returns-in-3 : goal.returns-in-3
unfolding order_readers order_of used_by_order largest_in_order
returns-in-3 c = rw (c.of-in-3.ensures, c.in-3.is)

pub returns-in-4 : goal.returns-in-4
unfolding order_readers order_of used_by_order largest_in_order
returns-in-4 c = rw (c.of-in-4.ensures, c.in-4.is)

pub returns-in-5 : goal.returns-in-5
unfolding order_readers order_of used_by_order largest_in_order
returns-in-5 c = rw (c.of-in-5.ensures, c.in-5.is)

pub returns-in-6 : goal.returns-in-6
unfolding order_readers order_of used_by_order largest_in_order
returns-in-6 c = rw (c.of-in-6.ensures, c.in-6.is)

pub returns-in_default : goal.returns-in_default
unfolding order_readers order_of used_by_order largest_in_order
returns-in_default c = rw (c.of-in_default.ensures, le_antisymm c.requires.1 (above 6 c.requires.0 c.in_default.in_default-own.rest))
