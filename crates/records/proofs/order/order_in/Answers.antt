use Rattle.records.specs.Orders.{order_in}
use Rattle.records.proofs.order.order_in.Goals as goal

pub returns : goal.returns
unfolding order_in
returns c = rw (c.number8-value.ensures, c.number4-n.ensures, c.number4-b.ensures, c.number4-a.ensures)
