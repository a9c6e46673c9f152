use Rattle.layout.proofs.Placing.{larger_supported}
use mathlib.Core.Path.{refl}
use Rattle.layout.proofs.config.larger.Goals as goal

pub returns : goal.returns
returns c = rw c.base-g.ensures.0 (refl, larger_supported)
