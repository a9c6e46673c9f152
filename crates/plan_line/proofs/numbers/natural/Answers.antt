use Rattle.std.proofs.Common.{sym, ◌∙◌}
use borrow.Author.Tests.{eqb-true, eqb-false}
use Rattle.plan_line.proofs.Digits.{no_digits, some_digits}
use Rattle.plan_line.proofs.numbers.natural.Goals as goal
use Rattle.plan_line.proofs.numbers.natural.Goals.{then-is_empty-via-then-is_empty, then-is_empty-via-else-is_empty+then-not-are_digits}

pub returns-then-is_empty : goal.returns-then-is_empty
returns-then-is_empty c =
    elim c.then-is_empty.branch [
      | then-is_empty-via-then-is_empty w ↦ no_digits _ _ (eqb-true _ 0 (sym c.is_empty.ensures ∙ w.if-is_empty.true))
      | then-is_empty-via-else-is_empty+then-not-are_digits w ↦
          rw (some_digits _ _ (eqb-false _ 0 (sym c.is_empty.ensures ∙ w.if-is_empty.false)), ← w.are_digits.ensures, w.if-not-are_digits.true)
    ]

pub returns : goal.returns
returns c =
    rw (some_digits _ _ (eqb-false _ 0 (sym c.is_empty.ensures ∙ c.if-is_empty.false)), ← c.are_digits.ensures, c.if-not-are_digits.false) c.value_within.ensures
