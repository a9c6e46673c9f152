use Rattle.std.specs.Prelude.{Err}
use mathlib.Core.Path.{sym, ap, ◌∙◌}
use Rattle.layout.specs.declared.config.Unshaped.{Unshaped}
use Rattle.layout.proofs.Placing.{shaped_supported}
use Rattle.channel_step.proofs.Played.{plays_known, plays_unframed, plays_unknown, unknown_stays}
use Rattle.channel_step.proofs.channel.play.Goals as goal

pub play_in-requires : goal.play_in-requires
play_in-requires c =
    let e = sym c.shape_of.ensures ∙ c.in-Ok.is in
    (e, shaped_supported _ _ e)

pub refuse-requires : goal.refuse-requires
refuse-requires c = let f = c.in-Err-NoFrame in sym c.shape_of.ensures ∙ f.is ∙ ap (λ (r : Unshaped). Err r) f.field-0-is

pub returns-in-Ok : goal.returns-in-Ok
returns-in-Ok c =
    plays_known (sym c.shape_of.ensures ∙ c.in-Ok.is)
    c.play_in.ensures.0 c.play_in.ensures.1

pub returns-in-Err-NoFrame : goal.returns-in-Err-NoFrame
returns-in-Err-NoFrame c =
    let f = c.in-Err-NoFrame in
    plays_unframed (sym c.shape_of.ensures ∙ f.is ∙ ap (λ (r : Unshaped). Err r) f.field-0-is) (c.refuse.ensures _)

pub returns-in-Err-NoEdition : goal.returns-in-Err-NoEdition
returns-in-Err-NoEdition c =
    let f = c.in-Err-NoEdition in
    rw c.not_run.ensures (plays_unknown (sym c.shape_of.ensures ∙ f.is ∙ ap (λ (r : Unshaped). Err r) f.field-0-is) (unknown_stays _ _ _))
