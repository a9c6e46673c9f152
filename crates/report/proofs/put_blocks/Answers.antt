use Rattle.text.proofs.Putting.{◌⨟◌}
use Rattle.report.specs.Counts.{blocks_line}
use Rattle.report.proofs.put_blocks.Goals as goal

pub returns : goal.returns
unfolding blocks_line
returns c = c.put_count-a.ensures ⨟ c.put_count-b.ensures ⨟ c.put_count-c.ensures ⨟ c.put_count-d.ensures ⨟ c.put_byte.ensures
