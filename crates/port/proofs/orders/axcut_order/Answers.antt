use Rattle.port.proofs.Tells.{tells_order}
use Rattle.port.proofs.orders.axcut_order.Goals as goal

pub returns : goal.returns
returns c = tells_order c.order-answer.ensures c.told.ensures c.counter_after.ensures
