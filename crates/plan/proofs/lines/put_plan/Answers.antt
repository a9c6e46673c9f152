use Rattle.std.proofs.Common.{◌≡◌, ◌+◌, rules, arith, Ok, Err}
use Rattle.plan_line.proofs.Digits.{handed_on}
use Rattle.plan_line.specs.declared.words.Sought.TheVariants.{Byte}
use Rattle.plan_line.specs.Words.{sought_in}
use Rattle.plan.specs.Steps.{laid, bad_line}
use Rattle.text.proofs.Putting.{same_length}
use Rattle.plan_line.proofs.Searching.{found_from, found_within}
use Rattle.plan.proofs.Texts.{no_line_yet, forward, bad_line_found, line_put, text_ends, no_line_left}
use Rattle.plan.proofs.lines.put_plan.Goals as goal

pub loop-at-init : goal.loop-at-init
loop-at-init c = (omega arith, omega arith, no_line_yet _ _)

pub slice_bounds-put_line-count : goal.slice_bounds-put_line-count
slice_bounds-put_line-count c = omega (arith, c.find-end.ensures, found_within (sought_in (Byte 10)) c.args.text.now c.loop-at.at c.loop-at.invariant.0, found_from (sought_in (Byte 10)) c.args.text.now c.loop-at.at)

pub slice_bounds-put_line-start : goal.slice_bounds-put_line-start
slice_bounds-put_line-start c = omega (arith, c.find-end.ensures, found_within (sought_in (Byte 10)) c.args.text.now c.loop-at.at c.loop-at.invariant.0, found_from (sought_in (Byte 10)) c.args.text.now c.loop-at.at)

pub slice_bounds-put_line-end : goal.slice_bounds-put_line-end
slice_bounds-put_line-end c = omega (arith, c.find-end.ensures, found_within (sought_in (Byte 10)) c.args.text.now c.loop-at.at c.loop-at.invariant.0, found_from (sought_in (Byte 10)) c.args.text.now c.loop-at.at)

pub put_line-requires : goal.put_line-requires
put_line-requires c = omega (arith, c.loop-at.invariant.2.put.few)

pub returns-in_err-next : goal.returns-in_err-next
returns-in_err-next c =
    let b = c.in_err-next.field-0.0 in
    let g : c.put_line.result ≡ Err b.wrong = search rules in
    let k : b.line ≡ c.loop-at.line + 1 = search rules in
    rw (handed_on c.from_residual.result c.from_residual.ensures.1, k) (bad_line (bad_line_found _ _ c.find-end.ensures _ c.loop-at.invariant.2 c.put_line.ensures g))

pub loop-at-smaller : goal.loop-at-smaller
loop-at-smaller c = let f = forward c.loop-at-test.true (rw c.find-end.ensures (found_from (sought_in (Byte 10)) c.args.text.now c.loop-at.at)) (rw c.find-end.ensures (found_within (sought_in (Byte 10)) c.args.text.now c.loop-at.at c.loop-at.invariant.0)) c.past-at.ensures.0 c.past-at.ensures.1 in omega arith

pub loop-at-preserved : goal.loop-at-preserved
loop-at-preserved c =
    let f = forward c.loop-at-test.true (rw c.find-end.ensures (found_from (sought_in (Byte 10)) c.args.text.now c.loop-at.at)) (rw c.find-end.ensures (found_within (sought_in (Byte 10)) c.args.text.now c.loop-at.at c.loop-at.invariant.0)) c.past-at.ensures.0 c.past-at.ensures.1 in
    let g : c.put_line.result ≡ Ok c.in_ok-next.next = search rules in
    (f.1, omega arith, line_put _ _ c.find-end.ensures _ c.loop-at.invariant.2 c.put_line.ensures g c.past-at.ensures.0 c.past-at.ensures.1)

pub shape_of-out : goal.shape_of-out
shape_of-out c = same_length c.loop-at.invariant.2.put

pub returns : goal.returns
returns c = laid (no_line_left c.loop-at.invariant.2 (text_ends _ _ _ c.loop-at-test.false) (omega arith))
