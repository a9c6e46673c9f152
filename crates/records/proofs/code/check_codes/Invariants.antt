use Prim.Native.Nat.{◌-◌, ◌≤◌}
use mathlib.Core.Path.{◌≡◌}
use Rattle.records.specs.Checked.{first_bad, places}
use Rattle.records.specs.Instructions.{code_starts, checked_codes}
use Rattle.std.specs.Prelude.{min}
use Rattle.records.proofs.code.check_codes.Given as goal

abbrev pub invariant-loop-k : goal.invariant-loop-k
invariant-loop-k l = (l.k ≤ l.n) × (checked_codes l.most l.s ≡ first_bad code_starts 24 (min l.most 65536) l.s l.k (places 24 l.s - l.k))
