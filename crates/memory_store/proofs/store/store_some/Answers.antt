use Prim.Native.Nat.{ℕ, ◌+◌, ◌-◌, ◌≤◌}
use native.Mathlib.Omega.{arith}
use Rattle.emit.proofs.Laws.{◌⨟◌}
use Rattle.memory.specs.Objects.{ext_in}
use Rattle.memory.proofs.Sizes.{store_values_size, acquire_size, chunks_few}
use Rattle.memory_store.proofs.store.store_some.Goals as goal

pub acquire_block-s-requires : goal.acquire_block-s-requires
acquire_block-s-requires c =
    let a = c.args in
    let w = c.requires in
    let rest : ℕ = c.saturating_sub-rest.result in
    let here = c.saturating_sub-rest.ensures in
    let values = c.store_values-q.ensures in
    let z = store_values_size a.g (ext_in a.kinds.now a.first) (a.v + rest) (a.n - rest) a.g.fields (omega arith) in
    (omega (arith, w.5.few, values.place), omega (arith, values.drawn), omega (arith, w.2, c.location_of-pointer.ensures.1), w.5)

pub other_blocks-requires : goal.other_blocks-requires
other_blocks-requires c =
    let w = c.requires in
    (omega (arith, c.saturating_sub-rest.ensures, w.2, w.5.frame), w.5)

pub store_others-requires : goal.store_others-requires
store_others-requires c =
    let a = c.args in
    let w = c.requires in
    let rest : ℕ = c.saturating_sub-rest.result in
    let here = c.saturating_sub-rest.ensures in
    let values = c.store_values-q.ensures in
    let acquired = c.acquire_block-s.ensures in
    let z = store_values_size a.g (ext_in a.kinds.now a.first) (a.v + rest) (a.n - rest) a.g.fields (omega arith) in
    let y = acquire_size a.g c.location_of-pointer.result in
    let some : 1 ≤ a.g.fields - 1 = omega (arith, w.5.some) in
    let few = chunks_few (a.g.fields - 1) rest some in
    let blocks = c.other_blocks.ensures.0 in (
      w.0,
      omega arith,
      omega arith,
      omega (arith, w.2, w.5.few, w.5.frame, few, blocks, values.place, acquired.place),
      omega (arith, w.2, w.5.few, w.5.frame, few, blocks, values.drawn, acquired.drawn),
      omega (arith, some),
      w.5,
    )

pub returns : goal.returns
returns c =
    rw (← c.saturating_sub-rest.ensures, ← c.location_of-pointer.ensures.0, ← c.other_blocks.ensures.0)
    (c.store_values-q.ensures ⨟ c.acquire_block-s.ensures ⨟ c.store_others.ensures)
