use mathlib.Core.Path.{sym, ◌∙◌}
use Rattle.layout.proofs.Placing.{framed_supported, found}
use Rattle.layout.proofs.config.stack_offset.Goals as goal

pub stack_offset_in-requires : goal.stack_offset_in-requires
stack_offset_in-requires c = framed_supported _ (sym c.frame_of.ensures ∙ found c.ok_or.ensures.ok_part c.in_ok-g.was)
