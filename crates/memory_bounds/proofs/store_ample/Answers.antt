use Prim.Native.Nat.{◌+◌}
use native.Mathlib.Omega.{arith}
use Rattle.memory_bounds.specs.Bounds.{stored_labels, linked, store_most}
use Rattle.memory_bounds.proofs.StoreSizes.{store_within}
use Rattle.memory_bounds.proofs.Ample.{ample_less}
use Rattle.memory_bounds.proofs.store_ample.Goals as goal

pub ample-requires : goal.ample-requires
ample-requires c = (omega (arith, c.requires.0), omega (arith, c.requires.1, c.stored_within.ensures.1))

pub returns-then-ample : goal.returns-then-ample
returns-then-ample c =
    let a = c.args in
    ample_less a.counter a.room (stored_labels a.n) _ (store_most a.g a.v a.n + a.more) c.ample.ensures c.if-ample.true
    (omega (arith, c.stored_within.ensures.0, store_within a.g c.requires.2 linked a.v a.n))

pub ample-requires-2 : goal.ample-requires-2
ample-requires-2 c = (omega (arith, c.requires.0), omega (arith, c.requires.1, c.store_most.ensures.1))

pub returns : goal.returns
returns c = rw (← c.store_most.ensures.0) c.ample-2.ensures
