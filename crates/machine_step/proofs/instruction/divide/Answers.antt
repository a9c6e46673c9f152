use mathlib.Core.Path.{sym, ◌∙◌}
use Rattle.machine_step.proofs.Instructions.{divisor_positive}
use Rattle.machine_step.proofs.instruction.divide.Goals as goal

pub quotient-requires : goal.quotient-requires
quotient-requires c = divisor_positive _ _ _ (sym c.divides.ensures ∙ c.if-divides.true)

pub remainder-requires : goal.remainder-requires
remainder-requires c = divisor_positive _ _ _ (sym c.divides.ensures ∙ c.if-divides.true)
