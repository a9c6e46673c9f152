use native.Mathlib.Omega.{arith}
use Rattle.order_emit.proofs.bounds.order_ample.Goals as goal

pub ample-requires-in-Copy : goal.ample-requires-in-Copy
ample-requires-in-Copy c =
    let few = rw c.in-Copy.is at c.requires.1 in
    (omega arith, omega (arith, few))

pub store_ample-requires : goal.store_ample-requires
store_ample-requires c =
    let few = rw c.in-Store.is at c.requires.1 in
    (omega (arith, few, c.requires.0, c.saturating_sub-v.ensures), omega arith, c.requires.2)

pub load_ample-requires : goal.load_ample-requires
load_ample-requires c = (rw c.in-Load.is at c.requires.1, c.requires.2)

pub returns-in-Put : goal.returns-in-Put
returns-in-Put c = rw c.in-Put.is c.ample.ensures

pub returns-in-Compute : goal.returns-in-Compute
returns-in-Compute c = rw c.in-Compute.is c.ample-in-Compute.ensures

pub returns-in-Copy : goal.returns-in-Copy
returns-in-Copy c = rw c.in-Copy.is c.ample-in-Copy.ensures

pub returns-in-Drop : goal.returns-in-Drop
returns-in-Drop c = rw c.in-Drop.is c.ample-in-Drop.ensures

pub returns-in-Store : goal.returns-in-Store
returns-in-Store c = rw (c.in-Store.is, ← c.saturating_sub-v.ensures) c.store_ample.ensures

pub returns-in-Load : goal.returns-in-Load
returns-in-Load c = rw c.in-Load.is c.load_ample.ensures

pub returns-in-Print : goal.returns-in-Print
returns-in-Print c = rw c.in-Print.is c.ample-in-Print.ensures
