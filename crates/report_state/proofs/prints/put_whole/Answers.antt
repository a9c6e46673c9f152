use native.Mathlib.Omega.{arith}
use borrow.Author.Tests.{lt-ltb, le-ltb}
use Rattle.text.proofs.Putting.{nothing, at_most}
use Rattle.report_state.specs.Prints.{word_of, prints_of}
use Rattle.report_state.proofs.Silent.{silent}
use Rattle.report_state.proofs.prints.put_whole.Goals as goal

pub put_word-requires : goal.put_word-requires
put_word-requires c = let w = c.requires in let l = c.if-p-limit.true in (w.0.registers, omega (arith, w.0.stack), omega (arith, w.2.frame), w.1)

pub returns-then-p-limit : goal.returns-then-p-limit
unfolding word_of prints_of
returns-then-p-limit c = rw (c.in-Print.is, lt-ltb _ _ c.if-p-limit.true) c.put_word.ensures

pub returns : goal.returns
unfolding prints_of
returns c = rw (c.in-Print.is, le-ltb _ _ c.if-p-limit.false) (at_most (nothing _ _) (omega arith))

pub returns-in_default : goal.returns-in_default
returns-in_default c = rw (silent _ _ _ _ c.in_default.not-Print) (at_most (nothing _ _) (omega arith))
