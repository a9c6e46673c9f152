use Prim.Native.Nat.{◌+◌, ◌*◌, ◌<◌, ◌^◌}
use lib.ListN.{length}
use Rattle.emit.specs.Emitted.{Emits}
use Rattle.memory.specs.Objects.{ext_in}
use Rattle.memory_load_blocks.specs.Blocks.{AllBlocks}
use Rattle.memory_load_blocks.proofs.Blocks.{Place, loaded}
use Rattle.memory_load_blocks.proofs.load_all.Given as goal

abbrev pub invariant-loop-i : goal.invariant-loop-i
invariant-loop-i l = Place l.each l.m l.rest l.i l.from l.to
    × (l.q.at + 1520 * l.m + 3100 < 2 ^ 64 + 1520 * l.i)
    × (l.q.counter + 7 * l.m + 7 < 2 ^ 32 + 7 * l.i)
    × ((all : AllBlocks l.g l.first l.v l.n (length l.kinds) l.each l.m l.rest) → Emits l.initial.out l.initial.q l.out l.q (loaded all (ext_in l.kinds l.first) l.shared l.i l.from))
