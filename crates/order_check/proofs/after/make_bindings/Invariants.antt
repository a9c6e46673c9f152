use Prim.Native.Nat.{◌≤◌}
use mathlib.Core.Path.{◌≡◌}
use lib.ListN.{length}
use lib.Seq.{sets}
use Rattle.order_spec.specs.Writes.{made_all}
use Rattle.order_check.proofs.Making.{Left}
use Rattle.order_check.proofs.after.make_bindings.Given as goal

abbrev pub invariant-loop-i : goal.invariant-loop-i
invariant-loop-i l = (l.i ≤ l.n)
    × (length l.out ≡ length l.initial.out)
    × Left (sets l.initial.out l.at (made_all l.kind l.place l.n)) l.at l.kind l.place l.n l.i l.out
