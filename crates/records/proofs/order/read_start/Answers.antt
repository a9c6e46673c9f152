use mathlib.Core.Path.{◌≡◌, sym, ◌∙◌}
use native.Mathlib.Omega.{arith}
use Rattle.records.specs.Orders.{order_starts}
use Rattle.records.proofs.OrdersRead.{ok_code, starts_short, unmarked, not_zero, marked, not_started, started}
use Rattle.records.proofs.order.read_start.Goals as goal

pub returns-then-s-lt24 : goal.returns-then-s-lt24
returns-then-s-lt24 c = not_started _ (starts_short _ c.if-s-lt24.true)

pub returns-then-s : goal.returns-then-s
returns-then-s c = not_started _ (unmarked _ (omega arith) c.if-s.true)

pub returns-then-s-ne0 : goal.returns-then-s-ne0
returns-then-s-ne0 c = not_started _ (not_zero _ (omega arith) c.if-s.false c.if-s-ne0.true)

pub order_of-requires : goal.order_of-requires
order_of-requires c = ok_code _ (sym c.order_ok.ensures ∙ c.if-order_ok.true)

pub returns-then-order_ok : goal.returns-then-order_ok
returns-then-order_ok c = let by_fields : c.order_ok.result ≡ order_starts c.args.s.now = marked _ (omega arith) c.if-s.false c.if-s-ne0.false c.order_in-f.ensures c.order_ok.ensures in started _ (sym c.if-order_ok.true ∙ by_fields) c.order_in-f.ensures c.order_of.ensures

pub returns-else-order_ok : goal.returns-else-order_ok
returns-else-order_ok c = let by_fields : c.order_ok.result ≡ order_starts c.args.s.now = marked _ (omega arith) c.if-s.false c.if-s-ne0.false c.order_in-f.ensures c.order_ok.ensures in not_started _ (sym c.if-order_ok.false ∙ by_fields)
