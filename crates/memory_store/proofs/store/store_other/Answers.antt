use native.Mathlib.Omega.{arith}
use Rattle.emit.proofs.Laws.{◌⨟◌}
use Rattle.memory.specs.Objects.{ext_in, store_values}
use Rattle.memory.proofs.Unfolded.{block_of}
use Rattle.memory.proofs.Sizes.{store_field_size, store_values_size}
use Rattle.memory_store.proofs.store.store_other.Goals as goal

pub store_values-s-requires : goal.store_values-s-requires
store_values-s-requires c = let a = c.args in let w = c.requires in let d = c.store_field-q.ensures in let z = store_field_size a.g c.location_of-link.result 2 c.fst_offset-offset.result in (w.0, w.1, w.2, w.3, omega arith, omega (arith, w.6, w.7.few, d.place), w.7)

pub acquire_block-requires : goal.acquire_block-requires
acquire_block-requires c = let a = c.args in let w = c.requires in let d = c.store_field-q.ensures in let z = store_field_size a.g c.location_of-link.result 2 c.fst_offset-offset.result in let d₂ = c.store_values-s.ensures in let y = store_values_size a.g (ext_in a.kinds.now a.first) a.v a.k a.each w.3 in (omega (arith, w.6, w.7.few, d.place, d₂.place), omega (arith, d.drawn, d₂.drawn), omega (arith, w.2, c.location_of-pointer.ensures.1), w.7)

pub returns : goal.returns
returns c = let a = c.args in rw (block_of a.g (ext_in a.kinds.now a.first) a.each c.requires.6 a.v a.k, ← c.fst_offset-offset.ensures, ← c.location_of-link.ensures.0, ← c.location_of-pointer.ensures.0) (c.store_field-q.ensures ⨟ ◌⨟◌ {t = store_values a.g (ext_in a.kinds.now a.first) a.v a.k a.each} c.store_values-s.ensures c.acquire_block.ensures)
