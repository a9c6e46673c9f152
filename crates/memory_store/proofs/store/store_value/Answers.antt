use native.Mathlib.Omega.{arith}
use Rattle.emit.proofs.Laws.{◌⨟◌}
use Rattle.memory.proofs.Sizes.{store_field_size}
use Rattle.memory_store.proofs.store.store_value.Goals as goal

pub store_fst-requires : goal.store_fst-requires
store_fst-requires c = let d = c.store_field-q.ensures in let z = store_field_size c.args.g c.location_of-w.result 2 c.snd_offset-offset.result in let a = c.requires in (a.2, a.3, omega (arith, d.place), a.5)

pub returns : goal.returns
returns c = rw (← c.snd_offset-offset.ensures, ← c.location_of-w.ensures.0, ← c.is_ext-ext.ensures) (c.store_field-q.ensures ⨟ c.store_fst.ensures)
