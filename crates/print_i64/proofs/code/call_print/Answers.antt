use mathlib.Core.Path.{refl}
use Rattle.records.specs.declared.code.Code.TheVariants.{MOV, CALL}
use Rattle.trees.specs.Tree.{leaf, seq}
use Rattle.emit.proofs.Laws.{grown}
use Rattle.print_i64.proofs.code.call_print.Goals as goal

pub returns : goal.returns
returns c = rw (← c.register_for-source.ensures, ← c.print_name-name.ensures) (grown (seq (leaf (MOV 7 c.register_for-source.result) refl) (leaf (CALL c.print_name-name.result) refl)) c.emit2.ensures refl refl)
