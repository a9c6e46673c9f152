use mathlib.Core.Path.{sym, ◌∙◌}
use Rattle.std.proofs.lemmas.Result.{err_from_is_err_and}
use Rattle.records.proofs.ContextsRead.{context_within, counted_good}
use Rattle.records.proofs.OrdersRead.{told, none_told}
use Rattle.order.proofs.Answering.{context_bad, bindings_bad, order_bad, number_bad, surplus, well_read}
use Rattle.order.proofs.order.begin.Goals as goal

pub returns-in_err-k : goal.returns-in_err-k
returns-in_err-k c =
    let p = err_from_is_err_and c.from_residual.result c.from_residual.ensures.1 in
    rw (p.1, p.2) (context_bad _ _ _ _ (sym c.check_context.ensures.answer ∙ c.in_err-k.was))

pub check_after-requires : goal.check_after-requires
check_after-requires c = (context_within _ _ (sym c.check_context.ensures.answer ∙ c.in_ok-k.was)).0

pub returns-in_err-m : goal.returns-in_err-m
returns-in_err-m c =
    let p = err_from_is_err_and c.from_residual-in_err-m.result c.from_residual-in_err-m.ensures.1 in
    rw (p.1, p.2) (bindings_bad _ _ _ _ (sym c.check_context.ensures.answer ∙ c.in_ok-k.was) _ (sym c.check_after.ensures.answer ∙ c.in_err-m.was))

pub returns-in_default : goal.returns-in_default
returns-in_default c =
    order_bad _ _ _ _ (sym c.check_context.ensures.answer ∙ c.in_ok-k.was) _ (counted_good _ _ (sym c.check_after.ensures.answer ∙ c.in_ok-m.was)) (none_told _ (sym c.read_start.ensures ∙ c.in_default.is))

-- once the order is read it is record 1
pub returns-then-m-wanted : goal.returns-then-m-wanted
returns-then-m-wanted c =
    let start = told _ (sym c.read_start.ensures ∙ c.in-Some.is) in
    number_bad _ _ _ _ (sym c.check_context.ensures.answer ∙ c.in_ok-k.was) _ (counted_good _ _ (sym c.check_after.ensures.answer ∙ c.in_ok-m.was)) start.0 start.1 (λ z. c.if-m-wanted.true (z ∙ sym c.wanted.ensures))

pub returns-then-order-ne24 : goal.returns-then-order-ne24
returns-then-order-ne24 c =
    let start = told _ (sym c.read_start.ensures ∙ c.in-Some.is) in
    surplus _ _ _ _ (sym c.check_context.ensures.answer ∙ c.in_ok-k.was) _ (counted_good _ _ (sym c.check_after.ensures.answer ∙ c.in_ok-m.was)) start.0 start.1 (c.if-m-wanted.false ∙ c.wanted.ensures) c.if-order-ne24.true

pub returns : goal.returns
returns c =
    let start = told _ (sym c.read_start.ensures ∙ c.in-Some.is) in
    well_read _ _ _ _ (sym c.check_context.ensures.answer ∙ c.in_ok-k.was) _ (counted_good _ _ (sym c.check_after.ensures.answer ∙ c.in_ok-m.was)) start.0 start.1 (c.if-m-wanted.false ∙ c.wanted.ensures) c.if-order-ne24.false
