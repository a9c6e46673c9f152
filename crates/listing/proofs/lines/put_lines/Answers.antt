use Rattle.std.proofs.Common.{arith}
use Rattle.listing.proofs.Accepted.{few_records, record_whole, record_code}
use Rattle.listing.proofs.Parts.{no_lines, line_more, all_lines}
use Rattle.text.proofs.Putting.{same_length}
use Rattle.listing.proofs.lines.put_lines.Goals as goal

pub loop-k-init : goal.loop-k-init
loop-k-init c = no_lines _ _ _ _

pub overflow_mul-k : goal.overflow_mul-k
overflow_mul-k c = omega (arith, few_records _ _ c.requires.0)

pub fields_at-requires : goal.fields_at-requires
fields_at-requires c = record_whole _ _ c.requires.0 _ (omega arith)

pub put_line-next-requires : goal.put_line-next-requires
put_line-next-requires c = let r = record_code _ _ c.requires.0 c.loop-k.k (omega arith) c.fields_at.ensures in (r.0, r.1, omega arith)

pub loop-k-preserved : goal.loop-k-preserved
loop-k-preserved c = line_more _ _ _ c.loop-k.invariant c.fields_at.ensures c.put_line-next.ensures

pub shape_of-text : goal.shape_of-text
shape_of-text c = same_length c.loop-k.invariant

pub returns : goal.returns
returns c = all_lines _ _ _ c.loop-k.invariant _ (omega arith) c.loop-k-test.false
