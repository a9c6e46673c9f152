use mathlib.Core.Path.{◌∙◌}
use borrow.Author.Tests.{lt-leb}
use native.Mathlib.Omega.{arith}
use Rattle.emit.proofs.Wrote.{labels_wanting, room_decides}
use Rattle.emit.proofs.answer.ample.Goals as goal

pub returns-then-saturating_add-le-LAST_LABEL : goal.returns-then-saturating_add-le-LAST_LABEL
returns-then-saturating_add-le-LAST_LABEL c = let e = c.saturating_add.ensures in let h = c.if-saturating_add-le-LAST_LABEL.true in room_decides _ _ _ _ (omega (arith, e, h))

pub returns-else-saturating_add-le-LAST_LABEL : goal.returns-else-saturating_add-le-LAST_LABEL
returns-else-saturating_add-le-LAST_LABEL c = let e = c.saturating_add.ensures in let h = c.if-saturating_add-le-LAST_LABEL.false in lt-leb _ 2147483647 h ∙ labels_wanting _ _ _ _ (omega (arith, e, h))
