use mathlib.Core.Path.{sym, ◌∙◌}
use Rattle.records.proofs.Answers.{answers_by}
use Rattle.records.proofs.OrdersRead.{told, none_told, read_bad, read_surplus, read_whole}
use Rattle.records.proofs.order.read_order.Goals as goal

pub returns-in_default : goal.returns-in_default
returns-in_default c = answers_by (read_bad _ (none_told _ (sym c.read_start.ensures ∙ c.in_default.is)))

pub returns-then-s-eq24 : goal.returns-then-s-eq24
returns-then-s-eq24 c =
    let t = told _ (sym c.read_start.ensures ∙ c.in-Some.is) in
    answers_by (read_whole _ t.0 t.1 c.if-s-eq24.true)

pub returns-else-s-eq24 : goal.returns-else-s-eq24
returns-else-s-eq24 c =
    let t = told _ (sym c.read_start.ensures ∙ c.in-Some.is) in
    answers_by (read_surplus _ t.0 c.if-s-eq24.false)
