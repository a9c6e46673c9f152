use Rattle.std.specs.Prelude.{Some}
use mathlib.Core.Path.{sym, ap, ◌∙◌}
use Rattle.records.proofs.Answers.{answers_by}
use Rattle.layout.proofs.Placing.{edited_supported, not_chosen}
use Rattle.heap_chains.proofs.to_fit.Goals as goal

pub returns-in_err-edition_of : goal.returns-in_err-edition_of
returns-in_err-edition_of c = answers_by (c.from_residual.ensures ∙ not_chosen c.edition_of.ensures _ _ c.in_err-edition_of.was)

pub to_fit_in-requires : goal.to_fit_in-requires
to_fit_in-requires c = edited_supported _ (sym c.edition_of.ensures ∙ c.in_ok-edition_of.was)

pub returns : goal.returns
returns c = answers_by (rw (sym c.edition_of.ensures ∙ c.in_ok-edition_of.was) (ap Some c.to_fit_in.ensures))
