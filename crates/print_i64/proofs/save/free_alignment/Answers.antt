use mathlib.Core.Path.{refl}
use borrow.Author.Tests.{eq-eqb, ne_eqb}
use Rattle.records.specs.declared.code.Code.TheVariants.{ADDI}
use Rattle.trees.specs.Tree.{leaf}
use Rattle.emit.proofs.Laws.{grown, emits_nop}
use Rattle.layout.specs.Config.{STACK}
use Rattle.print_i64.proofs.save.free_alignment.Goals as goal

pub returns-then-pushed-eq0 : goal.returns-then-pushed-eq0
returns-then-pushed-eq0 c = rw (eq-eqb _ _ c.if-pushed-eq0.true) (grown (leaf (ADDI STACK 8) refl) c.emit.ensures refl refl)

pub returns : goal.returns
returns c = rw (ne_eqb _ _ c.if-pushed-eq0.false) emits_nop
