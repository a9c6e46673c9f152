use mathlib.Core.Path.{sym}
use lib.Seq.{length-take-le}
use Rattle.plan_line.proofs.Searching.{found_within}
use Rattle.plan.proofs.Texts.{cut}
use native.Mathlib.Omega.{arith}
use Rattle.plan.proofs.lines.put_line.Goals as goal

pub slice_bounds-put_words-end : goal.slice_bounds-put_words-end
slice_bounds-put_words-end c = sym (length-take-le _ _ (rw c.find-end.ensures (found_within _ _ 0 (omega arith))))

pub returns : goal.returns
returns c = rw (cut _ _ c.find-end.ensures) at c.put_words.ensures
