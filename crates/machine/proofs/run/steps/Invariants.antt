use mathlib.Core.Path.{◌≡◌}
use lib.ListN.{length}
use Rattle.machine_step.specs.View.{view, words_of}
use Rattle.machine.specs.Run.{started, codes_of}
use Rattle.machine_step.specs.Forms.{compared_of}
use Rattle.machine.proofs.Running.{Going}
use Rattle.machine.proofs.run.steps.Given as goal

abbrev pub invariant-loop-done : goal.invariant-loop-done
invariant-loop-done l = Going (words_of l.words) l.s l.n l.limit (started (words_of l.words) (codes_of l.n l.s) l.limit (view l.initial.registers l.initial.stack l.initial.heap)) (view l.registers l.stack l.heap) (compared_of l.pair) l.place l.done × (length l.registers ≡ 16) × (length l.stack ≡ length l.initial.stack) × (length l.heap ≡ length l.initial.heap)
