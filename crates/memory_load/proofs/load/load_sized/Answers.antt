use mathlib.Core.Path.{refl}
use native.Mathlib.Omega.{arith}
use Rattle.emit.proofs.Wrote.{room_for, not_written, wrote}
use Rattle.memory.specs.Objects.{ext_in, load_object}
use Rattle.memory.proofs.Sizes.{object_size}
use Rattle.memory_load.proofs.Answering.{fits_few}
use Rattle.memory_load.proofs.load.load_sized.Goals as goal

pub load_object-need-requires : goal.load_object-need-requires
load_object-need-requires c = let w = c.requires in (w.0, w.1, omega arith, omega arith, w.2)

pub grant-requires : goal.grant-requires
grant-requires c = let a = c.args in let w = c.requires in let z = object_size a.g (ext_in a.loaded.now a.v) w.2 a.v a.n in let d = c.load_object-need.ensures in omega (arith, d.drawn, z.0, fits_few a.g w.2 a.v a.n w.1, w.2.frame)

pub returns-in_err-written : goal.returns-in_err-written
returns-in_err-written c = let a = c.args in not_written (load_object a.g (ext_in a.loaded.now a.v) a.v a.n) a.counter c.load_object-need.ensures refl refl a.out.now c.grant.ensures c.in_err-written.was c.from_residual.ensures.1

pub load_object-requires : goal.load_object-requires
load_object-requires c = let a = c.args in let w = c.requires in let g = room_for (load_object a.g (ext_in a.loaded.now a.v) a.v a.n) a.counter _ c.load_object-need.ensures refl refl c.grant.ensures c.in_ok-written.was in (w.0, w.1, omega arith, omega (arith, g.0), w.2)

pub returns : goal.returns
returns c = let a = c.args in wrote (load_object a.g (ext_in a.loaded.now a.v) a.v a.n) a.counter c.load_object-need.ensures refl refl a.out.now c.grant.ensures c.in_ok-written.was c.load_object.ensures refl refl
