use mathlib.Core.Path.{refl, sym, ◌∙◌}
use Rattle.layout.proofs.Placing.{edited_supported}
use Rattle.port_numbers.proofs.Known.{unknown, known}
use Rattle.port.proofs.Gives.{gives, gives_none, gives_unknown}
use Rattle.port.proofs.axcut_run.Goals as goal

pub returns-in_default : goal.returns-in_default
returns-in_default c = gives_unknown _ _ _ _ _ (sym c.edition_of.ensures ∙ c.in_default.is) refl refl

pub block_words-block-requires : goal.block_words-block-requires
block_words-block-requires c = edited_supported _ (sym c.edition_of.ensures ∙ c.in-Some.is)

pub returns-then-is_none : goal.returns-then-is_none
returns-then-is_none c =
    gives_none _ _ _ _ _ (sym c.edition_of.ensures ∙ c.in-Some.is) c.block_words-block.ensures.0
    (sym c.frame_on.ensures ∙ unknown _ c.if-is_none.ensures) refl c.unrun.ensures

pub returns : goal.returns
returns c =
    gives _ _ _ _ _ (sym c.edition_of.ensures ∙ c.in-Some.is) c.block_words-block.ensures.0
    (sym c.frame_on.ensures ∙ (known _ c.if-is_none.ensures).1) c.run_lent-answer.ensures c.told.ensures
