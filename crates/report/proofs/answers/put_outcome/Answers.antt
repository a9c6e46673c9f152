use native.Mathlib.Omega.{arith}
use Rattle.text.specs.Text.{digits}
use Rattle.text.proofs.Putting.{at_most}
use Rattle.report.specs.Answers.{cause_words, separator, refusal, outcome}
use Rattle.report.proofs.answers.put_outcome.Goals as goal

pub returns-in-Err-Context : goal.returns-in-Err-Context
unfolding outcome
returns-in-Err-Context c = let r = c.in-Err-Context in rw (r.is, rw r.is at r.field-0-is) (c.put_flaw.ensures c.args.frame)

pub returns-in-Err-Malformed : goal.returns-in-Err-Malformed
unfolding outcome
returns-in-Err-Malformed c = let r = c.in-Err-Malformed in rw (r.is, rw r.is at r.field-0-is) (at_most (c.put_malformed.ensures c.args.frame) (omega arith))

pub returns-in-Err-Room : goal.returns-in-Err-Room
unfolding outcome
returns-in-Err-Room c = let r = c.in-Err-Room in rw (r.is, rw r.is at r.field-0-is) (at_most (c.put_short.ensures c.args.frame) (omega arith))

pub returns-in-Err-Edition : goal.returns-in-Err-Edition
unfolding digits cause_words separator refusal outcome
returns-in-Err-Edition c = let r = c.in-Err-Edition in rw (r.is, rw r.is at r.field-0-is) (at_most c.put_refused-in-Err-Edition.ensures (omega arith))
