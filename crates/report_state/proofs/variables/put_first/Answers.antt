use native.Mathlib.Omega.{arith}
use Rattle.text.proofs.Putting.{same_length}
use Rattle.report_state.proofs.Rows.{no_lines, line_more, all_lines}
use Rattle.report_state.proofs.variables.put_first.Goals as goal

pub loop-k-init : goal.loop-k-init
loop-k-init c = (omega arith, no_lines _ _ _ _ _ _)

pub put_variable-next-requires : goal.put_variable-next-requires
put_variable-next-requires c = let w = c.requires in (omega arith, omega arith, w.2, w.3, omega arith, w.5)

pub loop-k-preserved : goal.loop-k-preserved
loop-k-preserved c = let l = c.loop-k in (omega arith, line_more _ _ _ _ _ l.invariant.1 c.put_variable-next.ensures)

pub shape_of-text : goal.shape_of-text
shape_of-text c = same_length c.loop-k.invariant.1

pub returns : goal.returns
returns c = let l = c.loop-k in all_lines _ _ _ _ _ l.invariant.1 _ l.invariant.0 c.loop-k-test.false
