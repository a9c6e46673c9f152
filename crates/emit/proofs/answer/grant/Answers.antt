use native.Mathlib.Omega.{arith}
use Rattle.emit.proofs.Wrote.{no_labels, no_room, granted_all}
use Rattle.emit.proofs.answer.grant.Goals as goal

pub returns-then-counter-gt-LAST_LABEL : goal.returns-then-counter-gt-LAST_LABEL
returns-then-counter-gt-LAST_LABEL c = no_labels _ _ _ _ (omega arith)

pub returns-then-after-gt-LAST_LABEL : goal.returns-then-after-gt-LAST_LABEL
returns-then-after-gt-LAST_LABEL c = no_labels _ _ _ _ c.if-after-gt-LAST_LABEL.true

pub returns-then-room-need : goal.returns-then-room-need
returns-then-room-need c = no_room _ _ _ _ c.if-after-gt-LAST_LABEL.false c.if-room-need.true

pub returns : goal.returns
returns c = granted_all _ _ _ _ c.if-after-gt-LAST_LABEL.false c.if-room-need.false
