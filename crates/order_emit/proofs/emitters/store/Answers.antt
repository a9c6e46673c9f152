use Prim.Native.Nat.{◌-◌}
use native.Mathlib.Omega.{arith}
use Rattle.emit.proofs.Laws.{◌⨟◌}
use Rattle.memory.specs.Objects.{ext_in}
use Rattle.memory.proofs.Sizes.{store_object_size}
use Rattle.order_emit.proofs.emitters.store.Goals as goal

pub overflow_sub-v : goal.overflow_sub-v
overflow_sub-v c = omega (arith, c.requires.1)

pub store_object-q-requires : goal.store_object-q-requires
store_object-q-requires c = let w = c.requires in (omega (arith, w.0, w.1), omega (arith, w.1, w.2), omega (arith, w.4), w.5, w.6)

pub overflow_mul-v : goal.overflow_mul-v
overflow_mul-v c = omega (arith, c.requires.3)

pub overflow_add-v : goal.overflow_add-v
overflow_add-v c = omega (arith, c.requires.3)

pub location_of-w-requires : goal.location_of-w-requires
location_of-w-requires c = let w = c.requires in (omega (arith, w.3, w.6.frame))

pub emit_load_immediate-requires : goal.emit_load_immediate-requires
emit_load_immediate-requires c = let a = c.args in let w = c.requires in let d = c.store_object-q.ensures in let z = store_object_size a.g (ext_in a.context.now 0) w.6 (a.k - a.n) a.n in (omega (arith, d.place, z.1, w.1, w.2, w.4, w.6.frame), omega (arith, w.3, c.location_of-w.ensures.1), w.6)

pub returns : goal.returns
returns c = rw (← c.location_of-w.ensures.0) (c.store_object-q.ensures ⨟ c.emit_load_immediate.ensures)
