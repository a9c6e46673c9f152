use native.Mathlib.Omega.{arith}
use Rattle.emit.proofs.Laws.{◌⨟◌, emits_nop}
use Rattle.memory.proofs.Sizes.{load_field_size}
use Rattle.memory_load_blocks.proofs.load_fst.Goals as goal

pub returns-then-ext : goal.returns-then-ext
returns-then-ext c = rw c.if-ext.true emits_nop

pub share_loaded-requires : goal.share_loaded-requires
share_loaded-requires c = let a = c.args in let w = c.requires in let d = c.load_field-q.ensures in let z = load_field_size a.g c.location_of-w.result a.r c.fst_offset-offset.result in (omega (arith, d.place), omega (arith, d.drawn))

pub returns : goal.returns
returns c = rw (c.if-ext.false, ← c.fst_offset-offset.ensures, ← c.location_of-w.ensures.0) (c.load_field-q.ensures ⨟ c.share_loaded.ensures)
