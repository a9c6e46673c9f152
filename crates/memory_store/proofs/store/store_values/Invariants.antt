use Prim.Native.Nat.{ℕ, ◌+◌, ◌*◌, ◌<◌, ◌^◌}
use mathlib.Core.List.{List}
use Rattle.emit.specs.declared.cursor.Cursor.{Cursor}
use Rattle.emit.specs.Emitted.{Emits}
use Rattle.memory.specs.Objects.{ext_in, store_values}
use Rattle.memory_store.proofs.store.store_values.Given as goal

abbrev pub invariant-loop-i : goal.invariant-loop-i
invariant-loop-i l = (l.q.at + 96 * l.i + 168 < 2 ^ 64)
    × ((o : List ℕ) (r : Cursor) → Emits l.out l.q o r (store_values l.g (ext_in l.kinds l.first) l.v l.i (l.zeros + l.i)) → Emits l.initial.out l.initial.q o r (store_values l.g (ext_in l.kinds l.first) l.v l.k l.free))
