use mathlib.Core.Path.{refl}
use Rattle.records.specs.declared.code.Code.TheVariants.{ADDIM, MOVL, CMPIM}
use Rattle.emit.proofs.Laws.{◌⨾◌, counted, grown}
use Rattle.trees.specs.Tree.{leaf, seq, skip_if_zero}
use Rattle.layout.specs.Config.{STACK, TEMP}
use Rattle.memory.proofs.block.share_spill.Goals as goal

pub returns : goal.returns
returns c = rw (← c.spill_offset-offset.ensures) (grown (skip_if_zero (CMPIM STACK _ 0) refl (seq (leaf (MOVL TEMP STACK _) refl) (leaf (ADDIM TEMP 0 _) refl))) (counted 1 (c.emit4-q.ensures ⨾ c.emit-s.ensures) c.draw.ensures) refl refl)
