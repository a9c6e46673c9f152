use borrow.Author.Tests.{ne_eqb}
use mathlib.Core.Path.{refl, sym, ◌∙◌}
use Rattle.emit.proofs.Wrote.{refused}
use Rattle.port_numbers.specs.Emission.{memory_answer, memory_records}
use Rattle.port_numbers.proofs.Known.{unknown, known}
use Rattle.port_numbers.proofs.emission.memory.Goals as goal

pub returns-then-is_none : goal.returns-then-is_none
unfolding memory_answer memory_records
returns-then-is_none c = rw (sym c.edition_of.ensures ∙ unknown _ c.if-is_none.ensures) (refused refl refl refl)

pub returns-in-1 : goal.returns-in-1
unfolding memory_answer memory_records
returns-in-1 c = rw (sym c.edition_of.ensures ∙ (known _ c.if-is_none.ensures).1, c.in-1.is) c.erase_block.ensures

pub returns-in-2 : goal.returns-in-2
unfolding memory_answer memory_records
returns-in-2 c = rw (sym c.edition_of.ensures ∙ (known _ c.if-is_none.ensures).1, c.in-2.is) c.share_block_n.ensures

pub returns-in-3 : goal.returns-in-3
unfolding memory_answer memory_records
returns-in-3 c = rw (sym c.edition_of.ensures ∙ (known _ c.if-is_none.ensures).1, c.in-3.is) c.store.ensures

pub returns-in-4 : goal.returns-in-4
unfolding memory_answer memory_records
returns-in-4 c = rw (sym c.edition_of.ensures ∙ (known _ c.if-is_none.ensures).1, c.in-4.is) c.load.ensures

pub returns-in_default : goal.returns-in_default
unfolding memory_answer memory_records
returns-in_default c =
    let r = c.in_default.in_default-own.rest in
    rw (sym c.edition_of.ensures ∙ (known _ c.if-is_none.ensures).1, ne_eqb _ 1 r.0.0.0.1, ne_eqb _ 2 r.0.0.1, ne_eqb _ 3 r.0.1, ne_eqb _ 4 r.1) (refused refl refl refl)
