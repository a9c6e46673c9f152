use native.Mathlib.Omega.{arith}
use mathlib.Core.Path.{sym, ◌∙◌}
use Rattle.layout.proofs.Placing.{framed_supported, chosen, not_chosen}
use Rattle.layout.specs.Config.{stack_depth}
use Rattle.channel_step.proofs.channel.stack_words.Goals as goal

pub overflow_add-result : goal.overflow_add-result
overflow_add-result c = let h = framed_supported _ (sym c.frame_of.ensures ∙ c.in-Some.is) in omega (arith, h.frame)

pub returns-in-Some : goal.returns-in-Some
returns-in-Some c = chosen c.frame_of.ensures stack_depth 0 c.in-Some.is

pub returns-in-None : goal.returns-in-None
returns-in-None c = not_chosen c.frame_of.ensures stack_depth 0 c.in-None.is
