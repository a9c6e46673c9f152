use native.Mathlib.Omega.{arith}
use Rattle.order_emit.proofs.emitters.compute.Goals as goal

pub overflow_mul-k : goal.overflow_mul-k
overflow_mul-k c = omega (arith, c.requires.4.frame, c.requires.0)

pub overflow_add-k : goal.overflow_add-k
overflow_add-k c = omega (arith, c.requires.4.frame, c.requires.0)

pub location_of-w-requires : goal.location_of-w-requires
location_of-w-requires c = let w = c.requires in (omega (arith, w.4.frame, w.0))

pub overflow_mul-a : goal.overflow_mul-a
overflow_mul-a c = omega (arith, c.requires.4.frame, c.requires.0, c.requires.1)

pub overflow_add-a : goal.overflow_add-a
overflow_add-a c = omega (arith, c.requires.4.frame, c.requires.0, c.requires.1)

pub location_of-x-requires : goal.location_of-x-requires
location_of-x-requires c = let w = c.requires in (omega (arith, w.4.frame, w.0, w.1))

pub overflow_mul-b : goal.overflow_mul-b
overflow_mul-b c = omega (arith, c.requires.4.frame, c.requires.0, c.requires.2)

pub overflow_add-b : goal.overflow_add-b
overflow_add-b c = omega (arith, c.requires.4.frame, c.requires.0, c.requires.2)

pub location_of-y-requires : goal.location_of-y-requires
location_of-y-requires c = let w = c.requires in (omega (arith, w.4.frame, w.0, w.2))

pub emit_arithmetic-requires : goal.emit_arithmetic-requires
emit_arithmetic-requires c = let w = c.requires in (w.3, omega (arith, w.0, c.location_of-w.ensures.1), omega (arith, w.0, w.1, c.location_of-x.ensures.1), omega (arith, w.0, w.2, c.location_of-y.ensures.1), w.4)

pub returns : goal.returns
returns c = rw (← c.location_of-w.ensures.0, ← c.location_of-x.ensures.0, ← c.location_of-y.ensures.0) c.emit_arithmetic.ensures
