use Prim.Native.Nat.{◌-◌}
use mathlib.Core.Path.{◌≡◌}
use Rattle.layout.specs.Queries.{id_place}
use Rattle.layout.proofs.utils.id_place.Given as goal

abbrev pub invariant-loop-k : goal.invariant-loop-k
invariant-loop-k l = id_place l.context l.id 0 l.n ≡ id_place l.context l.id l.k (l.n - l.k)
