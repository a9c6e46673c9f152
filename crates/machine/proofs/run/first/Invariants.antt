use Prim.Native.Nat.{◌≤◌}
use mathlib.Core.Path.{◌≡◌}
use Rattle.machine.specs.Loop.{places_from}
use Rattle.machine.proofs.run.first.Given as goal

abbrev pub invariant-loop-i : goal.invariant-loop-i
invariant-loop-i l = (l.i ≤ l.n) × (places_from l.label l.s l.n l.i ≡ places_from l.label l.s l.n l.k)
