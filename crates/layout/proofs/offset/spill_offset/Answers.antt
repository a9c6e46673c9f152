use borrow.Author.Rules.{rules}
use Rattle.layout.specs.Config.{stack_offset}
use Rattle.layout.proofs.offset.spill_offset.Goals as goal

pub returns : goal.returns
unfolding stack_offset
returns c = search rules
