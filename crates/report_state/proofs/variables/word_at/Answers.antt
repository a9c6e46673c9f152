use native.Mathlib.Omega.{arith}
use borrow.Author.Tests.{lt-ltb}
use Rattle.layout.specs.Frame.{held_in}
use Rattle.report_state.proofs.Rows.{spill_word}
use Rattle.report_state.proofs.variables.word_at.Goals as goal

pub returns-then-l-lt16 : goal.returns-then-l-lt16
unfolding held_in
returns-then-l-lt16 c = let e = c.location_at-l.ensures.0 in rw (← e, lt-ltb _ 16 c.if-l-lt16.true)

pub overflow_sub-k : goal.overflow_sub-k
unfolding held_in
overflow_sub-k c = omega (arith, c.if-l-lt16.false)

pub overflow_sub-result : goal.overflow_sub-result
unfolding held_in
overflow_sub-result c = omega (arith, c.requires.1)

pub overflow_sub-result-2 : goal.overflow_sub-result-2
unfolding held_in
overflow_sub-result-2 c = omega (arith, c.location_at-l.ensures.1, c.requires.1, c.if-l-lt16.false)

pub bounds-stack-stack : goal.bounds-stack-stack
unfolding held_in
bounds-stack-stack c = omega (arith, c.location_at-l.ensures.1, c.requires.1, c.if-l-lt16.false)

pub returns : goal.returns
unfolding held_in
returns c = let h = c.location_at-l.ensures.1 in let l = c.if-l-lt16.false in spill_word c.args.registers.now c.args.stack.now c.location_at-l.ensures.0 l (omega (arith, c.requires.1)) (omega (arith, c.requires.1))
