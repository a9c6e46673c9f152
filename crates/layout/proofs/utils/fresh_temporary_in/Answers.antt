use mathlib.Core.Path.{sym, ◌∙◌}
use native.Mathlib.Omega.{arith}
use Rattle.records.proofs.ContextsRead.{context_within}
use Rattle.records.proofs.Answers.{answers_by}
use Rattle.layout.proofs.Placing.{fresh, fresh_bad, handed_on}
use Rattle.layout.proofs.utils.fresh_temporary_in.Goals as goal

pub returns-in_err-n : goal.returns-in_err-n
returns-in_err-n c = answers_by (handed_on c.from_residual.result c.from_residual.ensures.1 ∙ fresh_bad _ _ _ _ (sym c.check_context.ensures.answer ∙ c.in_err-n.was))

pub overflow_mul-n : goal.overflow_mul-n
overflow_mul-n c = let w = context_within c.args.context.now _ (sym c.check_context.ensures.answer ∙ c.in_ok-n.was) in omega arith

pub overflow_add-n : goal.overflow_add-n
overflow_add-n c = let w = context_within c.args.context.now _ (sym c.check_context.ensures.answer ∙ c.in_ok-n.was) in let h = c.number_of.ensures.1 in omega arith

pub returns : goal.returns
returns c = answers_by (fresh _ _ _ _ (sym c.check_context.ensures.answer ∙ c.in_ok-n.was) c.number_of.ensures.0 c.position_in.ensures.answer)
