use Prim.Native.Nat.{ℕ, ◌+◌, ◌*◌, ◌-◌, ◌≤◌, ◌<◌, ◌^◌}
use mathlib.Core.List.{List}
use Rattle.emit.specs.declared.cursor.Cursor.{Cursor}
use Rattle.emit.specs.Emitted.{Emits}
use Rattle.memory.specs.Objects.{ext_in, store_others}
use Rattle.memory_store.proofs.store.store_others.Given as goal

abbrev pub invariant-loop : goal.invariant-loop
invariant-loop l = (l.left ≤ l.n)
    × (l.q.at + 3096 * (l.m - l.counter) + 400 < 2 ^ 64)
    × (l.q.counter + 25 * (l.m - l.counter) < 2 ^ 32)
    × ((o : List ℕ) (r : Cursor) → Emits l.out l.q o r (store_others l.g (ext_in l.kinds l.first) (l.m - l.counter) l.v l.left) → Emits l.initial.out l.initial.q o r (store_others l.g (ext_in l.kinds l.first) l.m l.v l.n))
