use native.Mathlib.Omega.{arith}
use Rattle.emit.proofs.Laws.{◌⨟◌}
use Rattle.code.proofs.Sizes.{plain_mov}
use Rattle.order_emit.proofs.emitters.copy_variable.Goals as goal

pub overflow_mul-v : goal.overflow_mul-v
overflow_mul-v c = omega (arith, c.requires.3.frame, c.requires.1)

pub overflow_add-v : goal.overflow_add-v
overflow_add-v c = omega (arith, c.requires.3.frame, c.requires.1)

pub location_of-to-requires : goal.location_of-to-requires
location_of-to-requires c = let w = c.requires in (omega (arith, w.3.frame, w.1))

pub overflow_mul-a : goal.overflow_mul-a
overflow_mul-a c = omega (arith, c.requires.3.frame, c.requires.0)

pub overflow_add-a : goal.overflow_add-a
overflow_add-a c = omega (arith, c.requires.3.frame, c.requires.0)

pub location_of-from-requires : goal.location_of-from-requires
location_of-from-requires c = let w = c.requires in (omega (arith, w.3.frame, w.0))

pub emit_mov-requires : goal.emit_mov-requires
emit_mov-requires c = let w = c.requires in (omega (arith, w.2), omega (arith, w.1, c.location_of-to.ensures.1), omega (arith, w.0, c.location_of-from.ensures.1), w.3)

pub returns-then-ext : goal.returns-then-ext
returns-then-ext c = rw (c.if-ext.true, ← c.location_of-to.ensures.0, ← c.location_of-from.ensures.0) c.emit_mov.ensures

pub overflow_mul-v-2 : goal.overflow_mul-v-2
overflow_mul-v-2 c = omega (arith, c.requires.3.frame, c.requires.1)

pub location_of-w-requires : goal.location_of-w-requires
location_of-w-requires c = let w = c.requires in (omega (arith, w.3.frame, w.1))

pub overflow_mul-a-2 : goal.overflow_mul-a-2
overflow_mul-a-2 c = omega (arith, c.requires.3.frame, c.requires.0)

pub location_of-x-requires : goal.location_of-x-requires
location_of-x-requires c = let w = c.requires in (omega (arith, w.3.frame, w.0))

pub emit_mov-q-requires : goal.emit_mov-q-requires
emit_mov-q-requires c = let w = c.requires in (omega (arith, w.2), omega (arith, w.1, c.location_of-to.ensures.1, c.location_of-w.ensures.1), omega (arith, c.location_of-from.ensures.1, c.location_of-x.ensures.1, w.0), w.3)

pub emit_mov-requires-2 : goal.emit_mov-requires-2
emit_mov-requires-2 c = let w = c.requires in let d = c.emit_mov-q.ensures in let f = plain_mov c.args.g c.location_of-w.result c.location_of-x.result in let s = plain_mov c.args.g c.location_of-to.result c.location_of-from.result in (omega (arith, d.place, f.most, s.most, c.requires.2), omega (arith, c.location_of-to.ensures.1, c.location_of-w.ensures.1, w.1), omega (arith, c.location_of-from.ensures.1, c.location_of-x.ensures.1, w.0), w.3)

pub returns : goal.returns
returns c = rw (c.if-ext.false, ← c.location_of-to.ensures.0, ← c.location_of-from.ensures.0, ← c.location_of-w.ensures.0, ← c.location_of-x.ensures.0) (c.emit_mov-q.ensures ⨟ c.emit_mov-2.ensures)
