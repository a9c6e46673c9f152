use mathlib.Core.Path.{sym, ◌∙◌}
use Rattle.layout.proofs.Placing.{framed_supported, found}
use Rattle.layout.proofs.utils.position.Goals as goal

pub position_in-requires : goal.position_in-requires
position_in-requires c = framed_supported _ (sym c.frame_of.ensures ∙ found c.ok_or.ensures.ok_part c.in_ok-g.was)
