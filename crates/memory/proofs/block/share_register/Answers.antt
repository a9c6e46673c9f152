use mathlib.Core.Path.{refl}
use Rattle.emit.proofs.Laws.{counted, grown}
use Rattle.memory.specs.Blocks.{share_register}
use Rattle.memory.proofs.block.share_register.Goals as goal

pub returns : goal.returns
returns c = grown (share_register _ _) (counted 1 c.emit4-q.ensures c.draw.ensures) refl refl
