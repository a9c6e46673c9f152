use Rattle.std.proofs.Common.{arith, sym, ap, ◌∙◌, Ok}
use Rattle.text.proofs.Putting.{nothing, at_most}
use Rattle.plan_line.proofs.Digits.{handed_on}
use Rattle.plan.specs.Steps.{next, stop}
use Rattle.plan.proofs.lines.put_words.Goals as goal

pub returns-in_err-o : goal.returns-in_err-o
returns-in_err-o c = rw (handed_on c.from_residual.result c.from_residual.ensures.1) (stop (sym c.read_line.ensures ∙ c.in_err-o.was))

pub returns-in_default : goal.returns-in_default
returns-in_default c = let e = sym c.read_line.ensures ∙ c.in_ok-o.was ∙ ap (λ x. Ok x) c.in_default.is in next (rw e (at_most (nothing _ _) (omega arith)))

pub returns : goal.returns
returns c = let e = sym c.read_line.ensures ∙ c.in_ok-o.was ∙ ap (λ x. Ok x) c.in-Some.is in next (rw e c.put_records.ensures)
