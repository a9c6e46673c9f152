use borrow.Author.Rules.{rules}
use mathlib.Core.Path.{sym, ◌∙◌}
use native.Mathlib.Omega.{arith}
use Rattle.routine.specs.Routine.{routine_answer}
use Rattle.routine.proofs.Assembling.{body_refused}
use Rattle.routine.proofs.Parts.{body_length}
use Rattle.routine.proofs.into_routine.routine_in.Goals as goal

pub returns-in_err-check_codes : goal.returns-in_err-check_codes
unfolding routine_answer
returns-in_err-check_codes c = rw (sym c.check_codes.ensures.answer ∙ c.in_err-check_codes.was) (body_refused c.from_residual.result c.from_residual.ensures.1)

pub assemble_checked-requires : goal.assemble_checked-requires
assemble_checked-requires c = let w = body_length c.args.body.now _ (sym c.check_codes.ensures.answer ∙ c.in_ok-check_codes.was) in (omega arith, search rules)

pub returns : goal.returns
unfolding routine_answer
returns c = rw (sym c.check_codes.ensures.answer ∙ c.in_ok-check_codes.was) c.assemble_checked.ensures
