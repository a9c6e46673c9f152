use mathlib.Core.Path.{refl}
use native.Mathlib.Omega.{arith}
use Rattle.emit.proofs.Wrote.{room_for, not_written, wrote}
use Rattle.memory.specs.Objects.{ext_in, store_object}
use Rattle.memory.proofs.Sizes.{store_object_size}
use Rattle.memory_store.proofs.store.store_sized.Goals as goal

pub store_object-need-requires : goal.store_object-need-requires
store_object-need-requires c = let w = c.requires in (w.0, w.1, omega arith, omega arith, w.2)

pub grant-requires : goal.grant-requires
grant-requires c = let a = c.args in let w = c.requires in let z = store_object_size a.g (ext_in a.kinds.now 0) w.2 a.v a.n in let d = c.store_object-need.ensures in omega (arith, w.1, w.2.frame, d.drawn, z.0)

pub returns-in_err-written : goal.returns-in_err-written
returns-in_err-written c = let a = c.args in not_written (store_object a.g (ext_in a.kinds.now 0) a.v a.n) a.counter c.store_object-need.ensures refl refl a.out.now c.grant.ensures c.in_err-written.was c.from_residual.ensures.1

pub store_object-requires : goal.store_object-requires
store_object-requires c = let a = c.args in let w = c.requires in let g = room_for (store_object a.g (ext_in a.kinds.now 0) a.v a.n) a.counter _ c.store_object-need.ensures refl refl c.grant.ensures c.in_ok-written.was in (w.0, w.1, omega arith, omega (arith, g.0), w.2)

pub returns : goal.returns
returns c = let a = c.args in wrote (store_object a.g (ext_in a.kinds.now 0) a.v a.n) a.counter c.store_object-need.ensures refl refl a.out.now c.grant.ensures c.in_ok-written.was c.store_object.ensures refl refl
