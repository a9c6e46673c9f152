use mathlib.Core.Path.{refl}
use Rattle.emit.proofs.Laws.{◌⨾◌, counted, grown}
use Rattle.memory.specs.Blocks.{erase_register}
use Rattle.memory.proofs.block.erase_register.Goals as goal

pub returns : goal.returns
returns c = grown (erase_register _) (counted 3 (c.emit4-q.ensures ⨾ c.emit4-s.ensures ⨾ c.emit3-t.ensures) c.draw.ensures) refl refl
