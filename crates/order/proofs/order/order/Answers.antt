use Rattle.std.specs.Prelude.{Err}
use mathlib.Core.Path.{refl, sym, ◌∙◌}
use Rattle.layout.specs.declared.config.Unshaped.TheVariants.{NoEdition}
use Rattle.layout.proofs.Placing.{shaped_supported}
use Rattle.order.proofs.Answering.{unanswered, no_edition, some_edition}
use Rattle.order.proofs.order.order.Goals as goal

pub returns-then-not-is_edition : goal.returns-then-not-is_edition
returns-then-not-is_edition c =
    let e = no_edition _ (sym c.is_edition.ensures ∙ c.if-not-is_edition.true) in
    rw (sym c.shape_of-shaped.ensures ∙ e) (unanswered (Err NoEdition) refl)

pub order_in-requires : goal.order_in-requires
order_in-requires c =
    let e = c.shape_of-shaped.ensures in
    ((λ g z. shaped_supported _ _ (sym e ∙ z)), some_edition _ (sym c.is_edition.ensures ∙ c.if-not-is_edition.false))

pub returns : goal.returns
returns c = rw (← c.shape_of-shaped.ensures) c.order_in.ensures
