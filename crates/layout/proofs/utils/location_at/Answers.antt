use mathlib.Core.Path.{◌∙◌}
use native.Mathlib.Omega.{arith}
use Rattle.layout.proofs.Placing.{location_below}
use Rattle.layout.proofs.utils.location_at.Goals as goal

pub returns : goal.returns
returns c = let e = c.from.ensures ∙ c.requires.0 _ c.requires.1 in (e, omega (arith, e, location_below c.args.p))
