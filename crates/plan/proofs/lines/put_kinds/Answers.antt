use Rattle.std.proofs.Common.{arith, drop}
use Rattle.plan_line.specs.Words.{words_in}
use Rattle.text.proofs.Putting.{same_length}
use Rattle.plan_line.proofs.Finding.{starts, no_word}
use Rattle.plan.proofs.Putting.{no_kind, kind_put, no_more_words, all_kinds}
use Rattle.plan.proofs.lines.put_kinds.Goals as goal

pub loop-id-init : goal.loop-id-init
loop-id-init c = (c.requires.0, no_kind _ _ c.args.n (words_in (drop c.args.from c.args.line.now)))

pub next_word-requires : goal.next_word-requires
next_word-requires c = c.loop-id.invariant.0

pub slice_bounds-kind_of-count : goal.slice_bounds-kind_of-count
slice_bounds-kind_of-count c = let w = starts c.next_word.ensures c.in-Some.is in omega arith

pub slice_bounds-kind_of-start : goal.slice_bounds-kind_of-start
slice_bounds-kind_of-start c = let w = starts c.next_word.ensures c.in-Some.is in omega arith

pub slice_bounds-kind_of-end : goal.slice_bounds-kind_of-end
slice_bounds-kind_of-end c = let w = starts c.next_word.ensures c.in-Some.is in omega arith

pub put_binding-next-requires : goal.put_binding-next-requires
put_binding-next-requires c = omega (arith, c.loop-id.invariant.1.put.few)

pub shape_of-out-in_default : goal.shape_of-out-in_default
shape_of-out-in_default c = same_length c.loop-id.invariant.1.put

pub returns-in_default : goal.returns-in_default
returns-in_default c = no_more_words _ _ _ c.loop-id.invariant.1 (no_word c.next_word.ensures c.in_default.is) (omega arith)

pub loop-id-preserved : goal.loop-id-preserved
loop-id-preserved c = let w = starts c.next_word.ensures c.in-Some.is in (w.within, kind_put _ _ _ c.loop-id.invariant.1 c.loop-id-test.true w.words c.kind_of.ensures c.put_binding-next.ensures)

pub shape_of-out : goal.shape_of-out
shape_of-out c = same_length c.loop-id.invariant.1.put

pub returns : goal.returns
returns c = all_kinds _ _ _ c.loop-id.invariant.1 c.loop-id-test.false (omega arith)
