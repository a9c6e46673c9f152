use Rattle.layout.proofs.Placing.{second_supported}
use mathlib.Core.Path.{refl}
use Rattle.layout.proofs.config.second.Goals as goal

pub returns : goal.returns
returns c = rw c.base-g.ensures.0 (refl, second_supported)
