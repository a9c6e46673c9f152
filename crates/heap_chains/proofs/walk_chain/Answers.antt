use Prim.Native.Nat.{◌+◌, ◌-◌}
use mathlib.Core.Path.{◌≡◌, refl, sym, ap, ◌∙◌}
use native.Mathlib.Omega.{arith}
use Rattle.machine_step.specs.View.{words_of}
use Rattle.heap.specs.Words.{headers}
use Rattle.heap_chains.specs.Blocks.{chain_length, chain_end}
use Rattle.heap_chains.proofs.Walks.{chain_ends, chain_goes, chain_stays}
use Rattle.heap_chains.proofs.walk_chain.Goals as goal

pub loop-passed-init : goal.loop-passed-init
loop-passed-init c = let e : c.args.most - 0 ≡ c.args.most = omega arith in rw e (omega arith, refl)

pub returns-then-next-eq0 : goal.returns-then-next-eq0
returns-then-next-eq0 c =
    let l = c.loop-passed in
    let w = chain_ends (headers c.args.g.fields (words_of c.args.heap.now)) (c.args.most - l.passed) l.b (sym c.first_word-next.ensures ∙ c.if-next-eq0.true) in
    (omega (arith, l.invariant.0, w.0), sym w.1 ∙ l.invariant.1)

pub loop-passed-preserved : goal.loop-passed-preserved
loop-passed-preserved c =
    let h = headers c.args.g.fields (words_of c.args.heap.now) in
    let l = c.loop-passed in
    let e = c.first_word-next.ensures in
    let left = c.args.most - l.passed in
    let one : c.args.most - (l.passed + 1) ≡ c.args.most - l.passed - 1 = omega arith in
    let w = chain_goes h left l.b (omega arith) (λ z. c.if-next-eq0.false (e ∙ z)) in
    rw one (omega (arith, l.invariant.0, w.0, ap (chain_length h (left - 1)) e), ap (chain_end h (left - 1)) e ∙ sym w.1 ∙ l.invariant.1)

pub returns : goal.returns
returns c =
    let l = c.loop-passed in
    let w = chain_stays (headers c.args.g.fields (words_of c.args.heap.now)) (c.args.most - l.passed) l.b (omega arith) in
    (omega (arith, l.invariant.0, w.0), sym w.1 ∙ l.invariant.1)
