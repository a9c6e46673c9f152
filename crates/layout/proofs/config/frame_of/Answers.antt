use Rattle.layout.proofs.Placing.{small_frame, large_frame, no_frame}
use Rattle.layout.proofs.config.frame_of.Goals as goal

pub returns-then-frame-eq256 : goal.returns-then-frame-eq256
returns-then-frame-eq256 c = small_frame _ c.if-frame-eq256.true c.base.ensures.0

pub returns-then-frame-eq512 : goal.returns-then-frame-eq512
returns-then-frame-eq512 c = large_frame _ c.if-frame-eq256.false c.if-frame-eq512.true c.larger.ensures.0

pub returns : goal.returns
returns c = no_frame _ c.if-frame-eq256.false c.if-frame-eq512.false
