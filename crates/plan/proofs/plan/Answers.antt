use Rattle.plan.proofs.Texts.{too_long, answer_bad, answer_room, answer_written}
use Rattle.plan_line.proofs.Digits.{handed_on}
use Rattle.plan.proofs.plan.Goals as goal

pub returns-then-text-gt-LONGEST : goal.returns-then-text-gt-LONGEST
returns-then-text-gt-LONGEST c = let all = too_long _ _ c.if-text-gt-LONGEST.true in record { answer = all.0; written = all.1 }

pub returns-in_err-size : goal.returns-in_err-size
returns-in_err-size c =
    let all = answer_bad _ _ c.if-text-gt-LONGEST.false c.put_plan.ensures c.in_err-size.was in
    rw (handed_on c.from_residual.result c.from_residual.ensures.1) (record { answer = all.0; written = all.1 })

pub returns-then-out-size : goal.returns-then-out-size
returns-then-out-size c = let all = answer_room _ _ c.if-text-gt-LONGEST.false c.put_plan.ensures c.in_ok-size.was c.if-out-size.true in record { answer = all.0; written = all.1 }

pub returns : goal.returns
returns c = let all = answer_written _ _ c.if-text-gt-LONGEST.false c.put_plan.ensures c.in_ok-size.was c.if-out-size.false c.put_plan-2.ensures in record { answer = all.0; written = all.1 }
