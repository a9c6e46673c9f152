use native.Mathlib.Omega.{arith}
use Rattle.text.proofs.Putting.{nothing, same_length, one_more, all_put}
use Rattle.text.proofs.put_bytes.Goals as goal

pub loop-b-init : goal.loop-b-init
loop-b-init c = nothing _ _

pub loop-b-preserved : goal.loop-b-preserved
loop-b-preserved c = one_more _ _ c.loop-b.invariant (omega arith) c.put_byte-next.ensures

pub shape_of-text : goal.shape_of-text
shape_of-text c = same_length c.loop-b.invariant

pub returns : goal.returns
returns c = all_put _ _ c.loop-b.invariant (omega arith) (omega arith)
