use mathlib.Core.Path.{sym, ◌∙◌}
use Rattle.layout.proofs.Placing.{shaped_supported}
use Rattle.channel_step.proofs.Played.{same_shape, not_shaped}
use Rattle.channel_step.proofs.channel.fresh_registers.Goals as goal

pub fresh_registers-requires : goal.fresh_registers-requires
fresh_registers-requires c = shaped_supported _ _ (sym c.shape_of.ensures ∙ c.in-Ok.is)

pub returns-in-Ok : goal.returns-in-Ok
returns-in-Ok c = λ h e. rw (same_shape (sym c.shape_of.ensures ∙ c.in-Ok.is) e) at c.fresh_registers.ensures

pub returns-in-Err : goal.returns-in-Err
returns-in-Err c = λ h e. not_shaped (sym c.shape_of.ensures ∙ c.in-Err.is) e
