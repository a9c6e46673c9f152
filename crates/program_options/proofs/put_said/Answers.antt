use Rattle.std.proofs.Common.{arith}
use Rattle.text.proofs.Putting.{nothing, at_most}
use Rattle.program_options.specs.Options.{said_words}
use Rattle.program_options.proofs.put_said.Goals as goal

pub returns-in_default : goal.returns-in_default
unfolding said_words
returns-in_default c = rw c.in_default.is (at_most (nothing _ _) (omega arith))

pub returns-in-NoEdition : goal.returns-in-NoEdition
unfolding said_words
returns-in-NoEdition c = rw (c.in-Some.is, c.in-NoEdition.is) (at_most c.put_bytes.ensures (omega arith))

pub returns-in-NoFrame : goal.returns-in-NoFrame
unfolding said_words
returns-in-NoFrame c = rw (c.in-Some.is, c.in-NoFrame.is) (at_most c.put_bytes-in-NoFrame.ensures (omega arith))
