use mathlib.Core.Path.{refl}
use Rattle.records.specs.declared.code.Code.TheVariants.{MOVL}
use Rattle.emit.proofs.Laws.{◌⨟◌, grown}
use Rattle.trees.specs.Tree.{leaf}
use Rattle.layout.specs.Config.{HEAP, TEMP}
use Rattle.memory.proofs.block.erase_child.Goals as goal

pub returns : goal.returns
returns c = rw (← c.fst_offset-offset.ensures) (grown (leaf (MOVL TEMP HEAP _) refl) c.emit-q.ensures refl refl ⨟ c.erase_register.ensures)
