use mathlib.Core.Path.{sym, ◌∙◌}
use native.Mathlib.Omega.{arith}
use Rattle.records.proofs.ContextsRead.{context_within}
use Rattle.records.proofs.Answers.{answers_by}
use Rattle.layout.proofs.Placing.{variable, variable_bad, handed_on}
use Rattle.layout.proofs.utils.variable_temporary_in.Goals as goal

pub returns-in_err-n : goal.returns-in_err-n
returns-in_err-n c = answers_by (handed_on c.from_residual.result c.from_residual.ensures.1 ∙ variable_bad _ _ _ _ _ (sym c.check_context.ensures.answer ∙ c.in_err-n.was))

pub id_place-requires : goal.id_place-requires
id_place-requires c = let w = context_within c.args.context.now _ (sym c.check_context.ensures.answer ∙ c.in_ok-n.was) in omega arith

pub placed-requires : goal.placed-requires
placed-requires c = let w = context_within c.args.context.now _ (sym c.check_context.ensures.answer ∙ c.in_ok-n.was) in let h = c.number_of.ensures.1 in (c.id_place.ensures.1, (omega arith, h), c.requires)

pub returns : goal.returns
returns c = answers_by (variable _ _ _ _ _ (sym c.check_context.ensures.answer ∙ c.in_ok-n.was) c.number_of.ensures.0 c.id_place.ensures.0 c.placed.ensures)
