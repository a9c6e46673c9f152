use Rattle.heap_chains.proofs.FirstWords.{counts}
use Rattle.heap_chains.proofs.count_blocks_in.Goals as goal

pub returns : goal.returns
returns c = counts _ _ _ c.block_words.ensures.0 _ _ c.walk_list-linear.ensures c.walk_chain-lazy.ensures.0 c.walk_chain-lazy.ensures.1 c.number_of-frontier.ensures c.saturating_sub-used.ensures c.saturating_sub.ensures c.saturating_sub-2.ensures
