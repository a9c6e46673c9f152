use native.Mathlib.Omega.{arith}
use borrow.Author.Tests.{eq-eqb, ne_eqb}
use Rattle.memory_store.proofs.store.store_object.Goals as goal

pub store_some-requires : goal.store_some-requires
store_some-requires c = let w = c.requires in (omega arith, omega arith, omega arith, omega arith, omega arith, w.4)

pub returns-then-n-eq0 : goal.returns-then-n-eq0
returns-then-n-eq0 c = rw (eq-eqb _ 0 c.if-n-eq0.true, ← c.location_of-w.ensures.0) c.emit_load_immediate.ensures

pub returns-else-n-eq0 : goal.returns-else-n-eq0
returns-else-n-eq0 c = rw (ne_eqb _ 0 c.if-n-eq0.false) c.store_some.ensures
