use mathlib.Core.Path.{sym, ◌∙◌}
use Rattle.emit.proofs.Wrote.{wanting}
use Rattle.layout.proofs.Placing.{framed_supported, found}
use Rattle.memory.proofs.block.erase_block.Goals as goal

pub returns-in_err-g : goal.returns-in_err-g
returns-in_err-g c = wanting c.ok_or.ensures.value c.in_err-g.was c.from_residual.ensures.1 (λ n. rw (sym c.frame_of.ensures ∙ n))

pub erase_block_in-requires : goal.erase_block_in-requires
erase_block_in-requires c = framed_supported _ (sym c.frame_of.ensures ∙ found c.ok_or.ensures.ok_part c.in_ok-g.was)

pub returns : goal.returns
returns c = rw (sym c.frame_of.ensures ∙ found c.ok_or.ensures.ok_part c.in_ok-g.was) c.erase_block_in.ensures
