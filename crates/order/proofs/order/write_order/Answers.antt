use mathlib.Core.Path.{refl}
use native.Mathlib.Omega.{arith}
use lib.ListN.{length}
use Rattle.emit.proofs.Wrote.{ample_if}
use Rattle.order_emit.proofs.Bounded.{order_bounds, few_handled}
use Rattle.order.proofs.Judging.{bounded, at_once, all_written}
use Rattle.order.proofs.order.write_order.Goals as goal

pub count_after-count-requires : goal.count_after-count-requires
count_after-count-requires c = (bounded c.requires).few

pub order_ample-ample-requires : goal.order_ample-ample-requires
order_ample-ample-requires c =
    let a = c.args in
    let ok = c.requires in
    let few = (bounded ok).few in
    (few, few_handled ok.supported a.context.now a.work.k a.bindings.now a.work.order few ok.there ok.placed, ok.supported)

pub overflow_mul-count : goal.overflow_mul-count
overflow_mul-count c = omega (arith, (bounded c.requires).few_after, c.count_after-count.ensures)

pub emit_order-q-requires : goal.emit_order-q-requires
emit_order-q-requires c =
    let a = c.args in
    let ok = c.requires in
    let x = bounded ok in
    let fit = ample_if a.work.counter _ _ _ c.order_ample-ample.ensures c.if-ample.true in
    (omega (arith, x.context_whole), x.few, omega (arith, x.bindings_whole), ok.there, ok.placed, omega (arith, fit.0), ok.supported)

pub write_context-requires : goal.write_context-requires
write_context-requires c =
    let ok = c.requires in
    let x = bounded ok in
    (x.context_whole, x.few, x.bindings_whole, ok.there, x.few_after, omega (arith, c.count_after-count.ensures, c.if-count-context_out.true))

pub returns-then-count-context_out : goal.returns-then-count-context_out
returns-then-count-context_out c =
    let a = c.args in
    let ok = c.requires in
    let fit = ample_if a.work.counter _ _ _ c.order_ample-ample.ensures c.if-ample.true in
    let z = order_bounds a.g ok.supported a.context.now a.work.k a.bindings.now a.work.order in
    let e =
    at_once ok (length a.records_out.now) (length a.context_out.now) c.emit_order-q.ensures c.count_after-count.ensures
    (omega (arith, fit.0, z.0)) (omega (arith, fit.1, z.1)) c.if-count-context_out.true in
    all_written ok e refl c.emit_order-q.ensures c.write_context.ensures

pub returns : goal.returns
returns c = c.write_sized.ensures
