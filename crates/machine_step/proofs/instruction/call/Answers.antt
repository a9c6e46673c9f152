use Rattle.machine_step.specs.View.{words_of}
use Rattle.machine_step.proofs.Instructions.{call_goes}
use Rattle.machine_step.proofs.instruction.call.Goals as goal

pub returns : goal.returns
returns c = λ S H. call_goes c.args.registers.now S H c.args.pair c.requires (words_of c.args.words.now) c.args.label c.print_name.ensures c.if-not-print_name.false c.if-registers-ne0.false c.lend.ensures.0 (c.lend.ensures.1 S H)
