use Rattle.std.proofs.Common.{◌≡◌, arith, refl, sym, ◌∙◌}
use Rattle.plan_line.proofs.Finding.{starts, no_word}
use Rattle.plan_line.proofs.Loads.{load_ends, other_kind, kind_on, all_counted}
use Rattle.plan_line.proofs.orders.read_load.Goals as goal

pub loop-n-init : goal.loop-n-init
loop-n-init c = (c.requires, refl)

pub next_word-requires : goal.next_word-requires
next_word-requires c = c.loop-n.invariant.0

pub returns-in_default : goal.returns-in_default
returns-in_default c = sym (c.loop-n.invariant.1 ∙ load_ends _ (no_word c.next_word.ensures c.in_default.is))

pub slice_bounds-is_kind-count : goal.slice_bounds-is_kind-count
slice_bounds-is_kind-count c = let w = starts c.next_word.ensures c.in-Some.is in omega arith

pub slice_bounds-is_kind-start : goal.slice_bounds-is_kind-start
slice_bounds-is_kind-start c = let w = starts c.next_word.ensures c.in-Some.is in omega arith

pub slice_bounds-is_kind-end : goal.slice_bounds-is_kind-end
slice_bounds-is_kind-end c = let w = starts c.next_word.ensures c.in-Some.is in omega arith

pub returns-then-not-is_kind : goal.returns-then-not-is_kind
returns-then-not-is_kind c = sym (c.loop-n.invariant.1 ∙ other_kind _ (starts c.next_word.ensures c.in-Some.is).words c.loop-n-test.true (sym c.is_kind.ensures ∙ c.if-not-is_kind.true))

pub loop-n-preserved : goal.loop-n-preserved
loop-n-preserved c =
    let w = starts c.next_word.ensures c.in-Some.is in
    (w.within, c.loop-n.invariant.1 ∙ kind_on _ w.words c.loop-n-test.true (sym c.is_kind.ensures ∙ c.if-not-is_kind.false))

pub load_of-requires : goal.load_of-requires
load_of-requires c = c.loop-n.invariant.0

pub returns : goal.returns
returns c = let e : c.loop-n.n ≡ 4096 = omega arith in c.load_of.ensures ∙ sym (c.loop-n.invariant.1 ∙ (rw e (all_counted 4096 _ (omega arith))))
