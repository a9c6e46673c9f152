use Prim.Native.Nat.{◌+◌}
use native.Mathlib.Omega.{arith}
use Rattle.emit.proofs.Laws.{◌⨟◌}
use Rattle.memory.proofs.Sizes.{release_size, link_size}
use Rattle.memory_load_blocks.proofs.load_body.Goals as goal

pub load_link-s-requires : goal.load_link-s-requires
load_link-s-requires c = let a = c.args in let w = c.requires in let d = c.release_unless-q.ensures in let z = release_size a.shared a.r in (w.2, omega (arith, d.place), w.6)

pub load_values-requires : goal.load_values-requires
load_values-requires c = let a = c.args in let w = c.requires in let f = c.capacity_of-free.ensures in let d = c.release_unless-q.ensures in let z = release_size a.shared a.r in let d₂ = c.load_link-s.ensures in let y = link_size a.g a.other (a.v + a.k) a.r in (w.0, w.1, w.2, rw f.0 w.3, f.1, omega (arith, w.3, w.6.few, f.0, f.1, d.place, d₂.place), omega (arith, d.drawn, d₂.drawn), w.6)

pub returns : goal.returns
returns c = rw (← c.capacity_of-free.ensures.0) (c.release_unless-q.ensures ⨟ c.load_link-s.ensures ⨟ c.load_values.ensures)
