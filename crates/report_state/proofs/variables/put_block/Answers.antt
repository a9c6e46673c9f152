use native.Mathlib.Omega.{arith}
use borrow.Author.Tests.{eq-eqb, ne_eqb}
use Rattle.text.proofs.Putting.{at_most}
use Rattle.report_state.specs.Cells.{block_name}
use Rattle.report_state.proofs.variables.put_block.Goals as goal

pub returns-then-pointer-eq0 : goal.returns-then-pointer-eq0
unfolding block_name
returns-then-pointer-eq0 c = rw (eq-eqb _ 0 c.if-pointer-eq0.true) (at_most c.put_bytes.ensures (omega arith))

pub fst_offset-bytes-requires : goal.fst_offset-bytes-requires
unfolding block_name
fst_offset-bytes-requires c = omega (arith, c.requires.1.few)

pub nonzero_div-block : goal.nonzero_div-block
unfolding block_name
nonzero_div-block c = omega (arith, c.fst_offset-bytes.ensures)

pub returns : goal.returns
unfolding block_name
returns c = rw (ne_eqb _ 0 c.if-pointer-eq0.false, ← c.saturating_sub.ensures, ← c.fst_offset-bytes.ensures) c.put_count.ensures
