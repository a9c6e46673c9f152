use native.Mathlib.Omega.{arith}
use Rattle.records.proofs.OrdersRead.{order_stored, order_too_long}
use Rattle.records.proofs.order.write_order.Goals as goal

pub returns-then-at-out : goal.returns-then-at-out
returns-then-at-out c =
    rw (← c.order_fields_of-f.ensures)
    (order_stored _ _ _ (omega arith) c.store_head.ensures c.store4.ensures c.store4-then-at-out.ensures c.store4-then-at-out-2.ensures c.store8.ensures)

pub returns-else-out-ge24 : goal.returns-else-out-ge24
returns-else-out-ge24 c = order_too_long _ _ _ (omega arith)
