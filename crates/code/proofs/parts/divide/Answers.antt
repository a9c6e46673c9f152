use mathlib.Core.Path.{refl}
use Rattle.records.specs.declared.code.Code.TheVariants.{CQO, IDIV, IDIVM}
use Rattle.trees.specs.Tree.{leaf, seq}
use Rattle.emit.proofs.Laws.{grown}
use Rattle.layout.specs.Config.{STACK, TEMP}
use borrow.Author.Tests.{lt-ltb, le-ltb, eq-eqb, ne_eqb}
use Rattle.code.proofs.parts.divide.Goals as goal

pub returns-then-w : goal.returns-then-w
returns-then-w c = rw (lt-ltb _ 16 c.if-w-lt16.true, eq-eqb _ 5 c.if-w.true) (grown (seq (leaf CQO refl) (leaf (IDIV TEMP) refl)) c.emit2.ensures refl refl)

pub returns-then-w-lt16 : goal.returns-then-w-lt16
returns-then-w-lt16 c = rw (lt-ltb _ 16 c.if-w-lt16.true, ne_eqb _ 5 c.if-w.false) (grown (seq (leaf CQO refl) (leaf (IDIV _) refl)) c.emit2-then-w-lt16.ensures refl refl)

pub returns : goal.returns
returns c = rw (le-ltb _ 16 c.if-w-lt16.false, ← c.spill_offset-offset.ensures) (grown (seq (leaf CQO refl) (leaf (IDIVM STACK _) refl)) c.emit2-2.ensures refl refl)
