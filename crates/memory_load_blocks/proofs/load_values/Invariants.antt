use Prim.Native.Nat.{ℕ, ◌+◌, ◌*◌, ◌<◌, ◌^◌}
use mathlib.Core.List.{List}
use Rattle.emit.specs.declared.cursor.Cursor.{Cursor}
use Rattle.emit.specs.Emitted.{Emits}
use Rattle.memory.specs.Objects.{ext_in, load_values}
use Rattle.memory_load_blocks.proofs.load_values.Given as goal

abbrev pub invariant-loop-i : goal.invariant-loop-i
invariant-loop-i l = (l.q.at + 192 * l.i + 24 < 2 ^ 64)
    × (l.q.counter + l.i < 2 ^ 32)
    × ((o : List ℕ) (s : Cursor) → Emits l.out l.q o s (load_values l.g (ext_in l.kinds l.first) l.shared l.v l.i (l.unused + l.i) l.r) → Emits l.initial.out l.initial.q o s (load_values l.g (ext_in l.kinds l.first) l.shared l.v l.k l.free l.r))
