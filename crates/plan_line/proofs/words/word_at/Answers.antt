use Rattle.std.proofs.Common.{arith, refl, ◌∙◌}
use native.Mathlib.Nat.{le_antisymm}
use Rattle.plan_line.specs.Words.{words_in}
use Rattle.plan_line.specs.Finding.{none}
use Rattle.plan_line.proofs.Finding.{starts, no_word, none_after, one_less}
use Rattle.plan_line.proofs.words.word_at.Goals as goal

pub loop-init : goal.loop-init
loop-init c = (omega arith, refl)

pub next_word-requires : goal.next_word-requires
next_word-requires c = c.loop.invariant.0

pub returns-in_err-end : goal.returns-in_err-end
returns-in_err-end c =
    rw c.from_residual.ensures (none (none_after (words_in c.args.line.now) c.loop.counter {k = c.args.k} (c.loop.invariant.1 ∙ no_word c.next_word.ensures c.in_err-end.was) (omega arith)))

pub loop-preserved : goal.loop-preserved
loop-preserved c = let w = starts c.next_word.ensures c.in_ok-end.was in (w.within, one_less (words_in c.args.line.now) c.loop.counter (c.loop.invariant.1 ∙ w.words))

pub next_word-requires-2 : goal.next_word-requires-2
next_word-requires-2 c = c.loop.invariant.0

pub returns : goal.returns
returns c = rw (← (le_antisymm c.loop.auto.counter-end c.loop-test.false), c.loop.invariant.1) c.next_word-2.ensures
