use Rattle.std.specs.Prelude.{Err}
use borrow.Author.Rules.{rules}
use mathlib.Core.Path.{refl, sym, ap, ◌∙◌}
use Rattle.layout.specs.declared.config.Unshaped.{Unshaped}
use Rattle.layout.proofs.Placing.{shaped_supported, shape_stack}
use Rattle.port.proofs.Gives.{starts, unframed_start, unknown_start}
use Rattle.port.proofs.axcut_start.Goals as goal

pub registers_of-requires : goal.registers_of-requires
registers_of-requires c = shaped_supported _ _ (shape_stack _ _ _ (sym c.shape_on.ensures ∙ c.in-Ok.is)).0

pub returns-in-Err-NoEdition : goal.returns-in-Err-NoEdition
returns-in-Err-NoEdition c = unknown_start _ _ (sym c.shape_on.ensures ∙ c.in-Err-NoEdition.is ∙ ap (λ (r : Unshaped). Err r) c.in-Err-NoEdition.field-0-is) refl refl

pub returns-in-Err-NoFrame : goal.returns-in-Err-NoFrame
returns-in-Err-NoFrame c = unframed_start _ _ (sym c.shape_on.ensures ∙ c.in-Err-NoFrame.is ∙ ap (λ (r : Unshaped). Err r) c.in-Err-NoFrame.field-0-is) refl refl

pub returns-in-Ok : goal.returns-in-Ok
returns-in-Ok c =
    let e = sym c.shape_on.ensures ∙ c.in-Ok.is in
    starts _ _ e c.registers_of.ensures (shape_stack _ _ _ e).1 (search rules)
