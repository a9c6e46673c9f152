use native.Mathlib.Omega.{arith}
use Rattle.emit.proofs.Laws.{◌⨟◌}
use Rattle.memory.proofs.Sizes.{load_field_size}
use Rattle.memory_load_blocks.proofs.load_value.Goals as goal

pub load_fst-requires : goal.load_fst-requires
load_fst-requires c = let a = c.args in let w = c.requires in let d = c.load_field-q.ensures in let z = load_field_size a.g c.location_of-w.result a.r c.snd_offset-offset.result in (w.2, w.3, omega (arith, d.place), omega (arith, d.drawn), w.6)

pub returns : goal.returns
returns c = rw (← c.snd_offset-offset.ensures, ← c.location_of-w.ensures.0, ← c.is_ext-ext.ensures) (c.load_field-q.ensures ⨟ c.load_fst.ensures)
