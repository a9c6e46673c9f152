use borrow.Author.Tests.{ne_eqb}
use mathlib.Core.Path.{sym, ◌∙◌}
use Rattle.port.specs.Query.{query_numbers}
use Rattle.port_numbers.proofs.Known.{unknown, known}
use Rattle.port.proofs.query.axcut_query.Goals as goal

pub returns-then-is_none : goal.returns-then-is_none
unfolding query_numbers
returns-then-is_none c = rw (sym c.edition_of.ensures ∙ unknown _ c.if-is_none.ensures)

pub returns-in-1 : goal.returns-in-1
unfolding query_numbers
returns-in-1 c = rw (sym c.edition_of.ensures ∙ (known _ c.if-is_none.ensures).1, c.in-1.is, ← c.position.ensures.answer) c.located.ensures

pub returns-in-2 : goal.returns-in-2
unfolding query_numbers
returns-in-2 c = rw (sym c.edition_of.ensures ∙ (known _ c.if-is_none.ensures).1, c.in-2.is, ← c.half_of-half.ensures, ← c.fresh_temporary.ensures.answer) c.located-in-2.ensures

pub returns-in-3 : goal.returns-in-3
unfolding query_numbers
returns-in-3 c = rw (sym c.edition_of.ensures ∙ (known _ c.if-is_none.ensures).1, c.in-3.is, ← c.half_of-half.ensures, ← c.variable_temporary.ensures.answer) c.located-in-3.ensures

pub returns-in-4 : goal.returns-in-4
unfolding query_numbers
returns-in-4 c = rw (sym c.edition_of.ensures ∙ (known _ c.if-is_none.ensures).1, c.in-4.is, ← c.stack_offset.ensures.answer) c.measured.ensures

pub returns-in-5 : goal.returns-in-5
unfolding query_numbers
returns-in-5 c =
    let e = sym c.edition_of.ensures ∙ (known _ c.if-is_none.ensures).1 in
    let offset = rw e at c.field_offset.ensures.answer in
    rw (e, c.in-5.is, ← c.half_of-half.ensures, ← offset) c.measured-in-5.ensures

pub returns-in_default : goal.returns-in_default
unfolding query_numbers
returns-in_default c =
    let r = c.in_default.in_default-own.rest in
    rw (sym c.edition_of.ensures ∙ (known _ c.if-is_none.ensures).1, ne_eqb _ 1 r.0.0.0.0.1, ne_eqb _ 2 r.0.0.0.1, ne_eqb _ 3 r.0.0.1, ne_eqb _ 4 r.0.1, ne_eqb _ 5 r.1)
