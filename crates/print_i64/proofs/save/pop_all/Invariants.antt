use Prim.Native.Nat.{◌-◌, ◌≤◌}
use mathlib.Core.Path.{◌≡◌}
use lib.ListN.{length}
use Rattle.emit.specs.Emitted.{fields_list, Emitted}
use Rattle.print_i64.specs.Registers.{members}
use Rattle.print_i64.proofs.Saving.{pops_down}
use Rattle.print_i64.proofs.save.pop_all.Given as goal

abbrev pub invariant-loop-r : goal.invariant-loop-r
invariant-loop-r l = (4 ≤ l.r)
    × (l.left ≡ length (members l.r l.set))
    × Emitted l.initial.out l.initial.q l.out l.q (fields_list (pops_down l.used 16 (16 - l.r) l.set)) 0
