use mathlib.Core.Path.{refl, sym, ◌∙◌}
use Rattle.emit.proofs.Wrote.{refused}
use Rattle.layout.proofs.Placing.{shaped_supported}
use Rattle.memory_store.proofs.store.store.Goals as goal

pub store_in-requires : goal.store_in-requires
store_in-requires c = shaped_supported _ _ (sym c.shape_of.ensures ∙ c.in-Ok.is)

pub returns-in-Ok : goal.returns-in-Ok
returns-in-Ok c = rw (sym c.shape_of.ensures ∙ c.in-Ok.is) c.store_in.ensures

pub returns-in-Err-NoFrame : goal.returns-in-Err-NoFrame
returns-in-Err-NoFrame c = rw (sym c.shape_of.ensures ∙ c.in-Err-NoFrame.is, c.in-Err-NoFrame.field-0-is) (refused c.unframed.ensures.0 refl c.unframed.ensures.1)

pub returns-in-Err-NoEdition : goal.returns-in-Err-NoEdition
returns-in-Err-NoEdition c = rw (sym c.shape_of.ensures ∙ c.in-Err-NoEdition.is, c.in-Err-NoEdition.field-0-is) (refused refl refl refl)
