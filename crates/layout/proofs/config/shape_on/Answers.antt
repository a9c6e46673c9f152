use mathlib.Core.Path.{◌∙◌}
use Rattle.layout.specs.Config.{shape_on}
use Rattle.layout.proofs.config.shape_on.Goals as goal

pub returns : goal.returns
unfolding shape_on
returns c = c.combined.ensures ∙ rw (c.edition_of.ensures, c.frame_on.ensures)
