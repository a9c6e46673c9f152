use Rattle.std.proofs.Common.{arith, sym, ◌∙◌}
use Rattle.plan_line.specs.Orders.{place_at}
use Rattle.plan_line.proofs.Digits.{place_fits, handed_on}
use Rattle.plan_line.proofs.orders.place_at.Goals as goal

pub returns-in_err-word : goal.returns-in_err-word
unfolding place_at
returns-in_err-word c = let h = c.in_err-word.ensures in handed_on c.from_residual.result c.from_residual.ensures.1 ∙ rw (h.words, h.missing)

pub returns-in_err-place : goal.returns-in_err-place
unfolding place_at
returns-in_err-place c = rw c.in_ok-word.ensures.words (handed_on c.from_residual-in_err-place.result c.from_residual-in_err-place.ensures.1 ∙ sym c.in_err-place.was ∙ c.natural.ensures)

pub overflow_cast-result : goal.overflow_cast-result
overflow_cast-result c = let h = place_fits _ (sym c.natural.ensures ∙ c.in_ok-place.was) in omega arith

pub returns : goal.returns
unfolding place_at
returns c = rw c.in_ok-word.ensures.words (sym c.in_ok-place.was ∙ c.natural.ensures)
