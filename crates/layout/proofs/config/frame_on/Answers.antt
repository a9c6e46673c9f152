use native.Mathlib.Omega.{arith}
use mathlib.Core.Path.{sym, ◌∙◌}
use Rattle.layout.proofs.Placing.{framed_supported, on_its_stack, on_another_stack, on_no_frame}
use Rattle.layout.proofs.config.frame_on.Goals as goal

pub returns-in_err-g : goal.returns-in_err-g
returns-in_err-g c = c.from_residual.ensures ∙ on_no_frame _ _ (sym c.frame_of.ensures ∙ c.in_err-g.was)

pub overflow_add-g : goal.overflow_add-g
overflow_add-g c = let h = framed_supported _ (sym c.frame_of.ensures ∙ c.in_ok-g.was) in omega (arith, h.frame)

pub returns-then-words-g : goal.returns-then-words-g
returns-then-words-g c = on_its_stack _ _ (sym c.frame_of.ensures ∙ c.in_ok-g.was) c.if-words-g.true

pub returns-else-words-g : goal.returns-else-words-g
returns-else-words-g c = on_another_stack _ _ (sym c.frame_of.ensures ∙ c.in_ok-g.was) c.if-words-g.false
