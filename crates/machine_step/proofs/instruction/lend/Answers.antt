use mathlib.Core.Path.{◌∙◌}
use Rattle.machine_step.proofs.Instructions.{copied, lends, the_rest}
use Rattle.machine_step.proofs.instruction.lend.Goals as goal

-- what is copied is the last eight words one by one
pub returns : goal.returns
returns c = lends c.args.registers.now c.args.words.now (copied c.args.registers.now c.args.words.now c.requires (c.copy_from_slice.ensures.after ∙ search (the_rest c.args.words.now c.told-words)))
