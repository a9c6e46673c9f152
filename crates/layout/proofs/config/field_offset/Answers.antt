use mathlib.Core.Path.{sym, ◌∙◌}
use Rattle.layout.proofs.Placing.{edited_supported, found}
use Rattle.layout.proofs.config.field_offset.Goals as goal

pub field_offset_in-requires : goal.field_offset_in-requires
field_offset_in-requires c = edited_supported _ (sym c.edition_of.ensures ∙ found c.ok_or.ensures.ok_part c.in_ok-g.was)
