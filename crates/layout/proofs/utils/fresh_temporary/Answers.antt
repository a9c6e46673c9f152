use mathlib.Core.Path.{sym, ◌∙◌}
use Rattle.layout.proofs.Placing.{framed_supported}
use Rattle.layout.proofs.utils.fresh_temporary.Goals as goal

pub fresh_temporary_in-requires : goal.fresh_temporary_in-requires
fresh_temporary_in-requires c = framed_supported _ (sym c.frame_of.ensures ∙ c.in-Some.is)
