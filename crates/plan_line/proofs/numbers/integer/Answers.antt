use Rattle.std.proofs.Common.{sym, ap, ◌∙◌}
use Rattle.plan_line.specs.Numbers.{natural_of, negated_number}
use Rattle.plan_line.proofs.Digits.{signed_integer, plain_integer, handed_on}
use Rattle.plan_line.proofs.numbers.integer.Goals as goal

pub returns-in_err-value-in-Some : goal.returns-in_err-value-in-Some
returns-in_err-value-in-Some c =
    let s = c.in-Some.ensures.cases in
    handed_on c.from_residual.result c.from_residual.ensures.1
    ∙ ap negated_number (sym c.in_err-value-in-Some.was ∙ c.natural.ensures ∙ ap (natural_of 0x8000_0000_0000_0000) s.1)
    ∙ sym (signed_integer _ s.0)

pub returns-in_ok-value-in-Some : goal.returns-in_ok-value-in-Some
returns-in_ok-value-in-Some c =
    let s = c.in-Some.ensures.cases in
    rw c.negative.ensures (ap negated_number (sym c.in_ok-value-in-Some.was ∙ c.natural.ensures ∙ ap (natural_of 0x8000_0000_0000_0000) s.1) ∙ sym (signed_integer _ s.0))

pub returns-in-None : goal.returns-in-None
returns-in-None c = c.natural-in-None.ensures ∙ sym (plain_integer _ c.in-None.ensures.cases)
