use Prim.Native.Nat.{◌*◌, ◌-◌, ◌≤◌}
use mathlib.Core.Path.{◌≡◌}
use lib.ListN.{drop}
use Rattle.records.specs.Contexts.{first_flaw, counted_on}
use Rattle.records.proofs.context.first_flaw.Given as goal

abbrev pub invariant-loop-k : goal.invariant-loop-k
invariant-loop-k l = (l.k ≤ l.n) × (counted_on l.before (first_flaw 0 l.n l.s) ≡ counted_on l.before (first_flaw l.k (l.n - l.k) (drop (8 * l.k) l.s)))
