use Prim.Native.Nat.{◌+◌, ◌*◌, ◌/◌, ◌≤◌}
use lib.ListN.{drop}
use mathlib.Core.Path.{◌≡◌}
use Rattle.plan_line.specs.Numbers.{digits_value}
use Rattle.plan_line.proofs.numbers.value_within.Given as goal

abbrev pub invariant-loop-b : goal.invariant-loop-b
invariant-loop-b l = (l.value ≤ 10 * (l.limit / 10) + 207) × (digits_value 0 l.w ≡ digits_value l.value (drop l.b-index l.w))
