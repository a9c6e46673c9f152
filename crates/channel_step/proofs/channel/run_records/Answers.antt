use mathlib.Core.Path.{sym}
use lib.Seq.{length-take-le}
use Rattle.channel_step.proofs.channel.run_records.Goals as goal

pub block_words-block-requires : goal.block_words-block-requires
block_words-block-requires c = c.requires.1

pub slice_bounds-run_lent-end : goal.slice_bounds-run_lent-end
slice_bounds-run_lent-end c = sym (length-take-le _ _ c.requires.0)

pub returns : goal.returns
returns c = rw c.block_words-block.ensures.0 at c.run_lent.ensures
