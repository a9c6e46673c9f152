use native.Mathlib.Omega.{arith}
use Rattle.memory_bounds.proofs.load_ample.Goals as goal

pub ample-requires : goal.ample-requires
ample-requires c = (omega (arith, c.requires.0), c.loaded_within.ensures.1)

pub returns : goal.returns
returns c = rw (← c.loaded_within.ensures.0) c.ample.ensures
