use Prim.Native.Nat.{◌-◌, ◌≤◌}
use mathlib.Core.Path.{◌≡◌}
use lib.ListN.{length}
use Rattle.emit.specs.Emitted.{fields_list, Emitted}
use Rattle.print_i64.specs.Registers.{members}
use Rattle.print_i64.specs.Saved.{move_all}
use Rattle.print_i64.proofs.save.move_all.Given as goal

abbrev pub invariant-loop-r : goal.invariant-loop-r
invariant-loop-r l = (l.r ≤ 12)
    × (length l.out ≡ length l.initial.out)
    × (l.done ≡ length (members l.r l.set))
    × Emitted l.initial.out l.initial.q l.out l.q (fields_list (move_all l.back l.first l.used (members l.r l.set))) 0

abbrev pub decreases-loop-r : goal.decreases-loop-r
decreases-loop-r l = 12 - l.r
