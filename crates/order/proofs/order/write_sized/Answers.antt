use mathlib.Core.Path.{sym, ◌∙◌}
use native.Mathlib.Omega.{arith}
use Rattle.order.proofs.Judging.{left_alone, bounded, as_fits, all_fit, all_written}
use Rattle.order.proofs.order.write_sized.Goals as goal

pub emit_order-need-requires : goal.emit_order-need-requires
emit_order-need-requires c =
    let ok = c.requires in
    let x = bounded ok in
    (omega (arith, x.context_whole), x.few, omega (arith, x.bindings_whole), ok.there, ok.placed, omega arith, ok.supported)

pub count_after-count-requires : goal.count_after-count-requires
count_after-count-requires c = (bounded c.requires).few

pub grant-answer-requires : goal.grant-answer-requires
grant-answer-requires c =
    let x = bounded c.requires in
    let d = c.emit_order-need.ensures in
    (omega (arith, d.place), omega (arith, d.drawn, x.few_labels), omega (arith, c.count_after-count.ensures, x.few_after))

-- what is granted is what the order comes to
pub returns-then-not-is_accepted : goal.returns-then-not-is_accepted
returns-then-not-is_accepted c =
    left_alone (as_fits c.requires _ _ c.emit_order-need.ensures c.count_after-count.ensures c.grant-answer.ensures) (sym c.is_accepted.ensures ∙ c.if-not-is_accepted.true)

pub emit_order-requires : goal.emit_order-requires
emit_order-requires c =
    let ok = c.requires in
    let x = bounded ok in
    let f = all_fit ok _ _ (as_fits c.requires _ _ c.emit_order-need.ensures c.count_after-count.ensures c.grant-answer.ensures) (sym c.is_accepted.ensures ∙ c.if-not-is_accepted.false) in
    (omega (arith, x.context_whole), x.few, omega (arith, x.bindings_whole), ok.there, ok.placed, omega (arith, f.labelled, x.few_labels), ok.supported)

pub write_context-requires : goal.write_context-requires
write_context-requires c =
    let ok = c.requires in
    let x = bounded ok in
    let f = all_fit ok _ _ (as_fits c.requires _ _ c.emit_order-need.ensures c.count_after-count.ensures c.grant-answer.ensures) (sym c.is_accepted.ensures ∙ c.if-not-is_accepted.false) in
    (x.context_whole, x.few, x.bindings_whole, ok.there, x.few_after, omega (arith, x.after_whole, f.context_fits))

pub returns : goal.returns
returns c =
    all_written c.requires (as_fits c.requires _ _ c.emit_order-need.ensures c.count_after-count.ensures c.grant-answer.ensures) (sym c.is_accepted.ensures ∙ c.if-not-is_accepted.false) c.emit_order.ensures c.write_context.ensures
