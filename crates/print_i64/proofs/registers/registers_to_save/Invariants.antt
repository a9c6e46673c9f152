use mathlib.Core.Path.{◌≡◌}
use Rattle.records.specs.Contexts.{ext_at}
use Rattle.print_i64.specs.Registers.{registers_to, set_of}
use Rattle.print_i64.proofs.registers.registers_to_save.Given as goal

abbrev pub invariant-loop-v : goal.invariant-loop-v
invariant-loop-v l = l.set ≡ set_of (registers_to (ext_at l.context) l.v)
