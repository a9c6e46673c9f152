use native.Mathlib.Omega.{arith}
use Rattle.emit.proofs.Laws.{emits_nop}
use Rattle.order_check.proofs.Asking.{linked_fits}
use Rattle.order_emit.proofs.emitters.share_linked.Goals as goal

pub returns-then-ext : goal.returns-then-ext
returns-then-ext c = rw c.if-ext.true emits_nop

pub overflow_mul-a : goal.overflow_mul-a
overflow_mul-a c = let g = linked_fits c.args.a c.if-ext.false c.requires.0 in omega (arith, g, c.requires.3.frame)

pub location_of-w-requires : goal.location_of-w-requires
location_of-w-requires c = let g = linked_fits c.args.a c.if-ext.false c.requires.0 in (omega (arith, g, c.requires.3.frame))

pub share-requires : goal.share-requires
share-requires c = let w = c.requires in let g = linked_fits c.args.a c.if-ext.false w.0 in (w.1, w.2, omega (arith, g, c.location_of-w.ensures.1), w.3)

pub returns : goal.returns
returns c = rw (c.if-ext.false, ← c.location_of-w.ensures.0) c.share.ensures
