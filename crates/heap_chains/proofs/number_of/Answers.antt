use Rattle.heap_chains.proofs.FirstWords.{number_low, number_high}
use Rattle.heap_chains.proofs.number_of.Goals as goal

pub returns-then-b-lt65536 : goal.returns-then-b-lt65536
returns-then-b-lt65536 c = number_low _ _ c.if-b-lt65536.true

pub returns-else-b-lt65536 : goal.returns-else-b-lt65536
returns-else-b-lt65536 c = number_high _ _ c.block_words-block.ensures.0
