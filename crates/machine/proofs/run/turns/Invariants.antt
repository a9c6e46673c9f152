use mathlib.Core.Path.{◌≡◌}
use lib.ListN.{length}
use Rattle.machine_step.specs.View.{words_of}
use Rattle.machine.specs.State.{see}
use Rattle.machine.specs.Run.{started, codes_of}
use Rattle.machine.proofs.Running.{Going}
use Rattle.machine.proofs.run.turns.Given as goal

abbrev pub invariant-loop-done : goal.invariant-loop-done
invariant-loop-done l = Going (words_of l.words) l.s l.n l.limit (started (words_of l.words) (codes_of l.n l.s) l.limit (see l.initial.at l.initial.heap)) (see l.at l.heap) l.compared l.place l.done × (length l.heap ≡ length l.initial.heap)
