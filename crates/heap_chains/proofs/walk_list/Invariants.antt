use Prim.Native.Nat.{◌+◌, ◌-◌}
use mathlib.Core.Path.{◌≡◌}
use Rattle.machine_step.specs.View.{words_of}
use Rattle.heap.specs.Words.{headers}
use Rattle.heap_chains.specs.Blocks.{list_length}
use Rattle.heap_chains.proofs.walk_list.Given as goal

abbrev pub invariant-loop-passed : goal.invariant-loop-passed
invariant-loop-passed l = l.passed + list_length (headers l.g.fields (words_of l.heap)) (l.most - l.passed) l.b ≡ list_length (headers l.g.fields (words_of l.heap)) l.most l.first
