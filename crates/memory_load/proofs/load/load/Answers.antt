use mathlib.Core.Path.{refl, sym, ◌∙◌}
use Rattle.emit.proofs.Wrote.{refused}
use Rattle.layout.proofs.Placing.{shaped_supported}
use Rattle.memory_load.proofs.load.load.Goals as goal

pub load_in-requires : goal.load_in-requires
load_in-requires c = shaped_supported _ _ (sym c.shape_of.ensures ∙ c.in-Ok.is)

pub returns-in-Ok : goal.returns-in-Ok
returns-in-Ok c = rw (sym c.shape_of.ensures ∙ c.in-Ok.is) c.load_in.ensures

pub returns-in-Err-NoFrame : goal.returns-in-Err-NoFrame
returns-in-Err-NoFrame c = rw (sym c.shape_of.ensures ∙ c.in-Err-NoFrame.is, c.in-Err-NoFrame.field-0-is) (refused c.unframed.ensures.0 refl c.unframed.ensures.1)

pub returns-in-Err-NoEdition : goal.returns-in-Err-NoEdition
returns-in-Err-NoEdition c = rw (sym c.shape_of.ensures ∙ c.in-Err-NoEdition.is, c.in-Err-NoEdition.field-0-is) (refused refl refl refl)
