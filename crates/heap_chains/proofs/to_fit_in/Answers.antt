use native.Mathlib.Omega.{arith}
use Rattle.heap_chains.proofs.FirstWords.{number_bytes, fits, fit_bytes}
use Rattle.heap_chains.proofs.to_fit_in.Goals as goal

pub overflow_add-blocks : goal.overflow_add-blocks
overflow_add-blocks c = omega (arith, number_bytes c.args.g.fields c.walk_chain-lazy.result.end, c.number_of-frontier.ensures, c.saturating_sub-peak.ensures)

pub overflow_mul-result-2 : goal.overflow_mul-result-2
overflow_mul-result-2 c = omega (arith, fit_bytes c.args.g.fields c.walk_chain-lazy.result.end c.requires.few c.block_words-block.ensures.0 c.number_of-frontier.ensures c.saturating_sub-peak.ensures)

pub returns : goal.returns
returns c = fits _ _ _ c.block_words-block.ensures.0 _ c.walk_chain-lazy.ensures.1 c.number_of-frontier.ensures c.saturating_sub-peak.ensures
