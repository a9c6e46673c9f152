use mathlib.Core.Path.{◌∙◌}
use Rattle.layout.specs.Config.{shape_of}
use Rattle.layout.proofs.config.shape_of.Goals as goal

pub returns : goal.returns
unfolding shape_of
returns c = c.combined.ensures ∙ rw (c.edition_of.ensures, c.frame_of.ensures)
