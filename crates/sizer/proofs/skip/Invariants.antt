use Rattle.std.proofs.Common.{length, ◌≡◌}
use Rattle.sizer.proofs.skip.Given as goal

abbrev pub invariant-loop-left : goal.invariant-loop-left
invariant-loop-left g l = length l.space ≡ length l.initial.space

abbrev pub decreases-loop-left : goal.decreases-loop-left
decreases-loop-left g l = l.left
