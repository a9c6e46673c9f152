use Prim.Native.Nat.{ℕ}
use mathlib.Core.Path.{refl}
use native.Mathlib.Omega.{arith}
use borrow.Author.Tests.{eq-eqb, ne_eqb}
use lib.Dec.{ltb}
use Rattle.records.specs.declared.code.Code.TheVariants.{MOVL}
use Rattle.records.proofs.Conditions.{both_ways}
use Rattle.trees.specs.Tree.{Tree, nop, leaf}
use Rattle.emit.proofs.Laws.{◌⨟◌, emits_nop}
use Rattle.layout.specs.Config.{STACK, TEMP, stack_offset}
use Rattle.memory.proofs.Sizes.{Sized}
use Rattle.memory_load.proofs.Answering.{fits_all}
use Rattle.memory_load.proofs.load.load_object.Goals as goal

pub returns-then-n-eq0 : goal.returns-then-n-eq0
returns-then-n-eq0 c = rw (eq-eqb _ 0 c.if-n-eq0.true) emits_nop

pub overflow_mul-v : goal.overflow_mul-v
overflow_mul-v c = let a = c.args in let f = fits_all a.g c.requires.4 a.v a.n c.requires.1 c.if-n-eq0.false in omega (arith, c.requires.4.frame)

pub location_of-w-requires : goal.location_of-w-requires
location_of-w-requires c = let a = c.args in let w = c.requires in let f = fits_all a.g w.4 a.v a.n w.1 c.if-n-eq0.false in (omega (arith, w.4.frame))

pub into_register-q-requires : goal.into_register-q-requires
into_register-q-requires c = let a = c.args in let w = c.requires in let f = fits_all a.g w.4 a.v a.n w.1 c.if-n-eq0.false in (omega (arith, f, c.location_of-w.ensures.1), omega (arith, w.2), w.4)

pub load_counted-requires : goal.load_counted-requires
load_counted-requires c = let a = c.args in let w = c.requires in let f = fits_all a.g w.4 a.v a.n w.1 c.if-n-eq0.false in let d = c.into_register-q.ensures in let r : ℕ = c.location_of-w.result in let t : Tree = leaf (MOVL TEMP STACK (stack_offset a.g r)) refl in let z = both_ways (Sized 0 1) (ltb r 16) {x = nop} {y = t} (omega arith) (omega arith) in (w.0, f, omega (arith, w.2, d.place, z.1), omega (arith, w.3, d.drawn, z.0), w.4)

pub returns : goal.returns
returns c = rw (ne_eqb _ 0 c.if-n-eq0.false, ← c.location_of-w.ensures.0, ← c.register_for.ensures) (c.into_register-q.ensures ⨟ c.load_counted.ensures)
