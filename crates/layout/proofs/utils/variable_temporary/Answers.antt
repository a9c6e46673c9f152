use mathlib.Core.Path.{sym, ◌∙◌}
use Rattle.layout.proofs.Placing.{framed_supported}
use Rattle.layout.proofs.utils.variable_temporary.Goals as goal

pub variable_temporary_in-requires : goal.variable_temporary_in-requires
variable_temporary_in-requires c = framed_supported _ (sym c.frame_of.ensures ∙ c.in-Some.is)
