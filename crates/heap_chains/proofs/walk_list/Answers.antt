use Prim.Native.Nat.{◌+◌, ◌-◌}
use mathlib.Core.Path.{◌≡◌, ap}
use native.Mathlib.Omega.{arith}
use Rattle.machine_step.specs.View.{words_of}
use Rattle.heap.specs.Words.{headers}
use Rattle.heap_chains.specs.Blocks.{list_length}
use Rattle.heap_chains.proofs.Walks.{list_ends, list_goes, list_stays}
use Rattle.heap_chains.proofs.walk_list.Goals as goal

pub loop-passed-init : goal.loop-passed-init
loop-passed-init c = let e : c.args.most - 0 ≡ c.args.most = omega arith in rw e (omega arith)

pub returns-then-b-eq0 : goal.returns-then-b-eq0
returns-then-b-eq0 c = let l = c.loop-passed in omega (arith, l.invariant, list_ends (headers c.args.g.fields (words_of c.args.heap.now)) (c.args.most - l.passed) l.b c.if-b-eq0.true)

pub loop-passed-preserved : goal.loop-passed-preserved
loop-passed-preserved c =
    let h = headers c.args.g.fields (words_of c.args.heap.now) in
    let l = c.loop-passed in
    let left = c.args.most - l.passed in
    let one : c.args.most - (l.passed + 1) ≡ c.args.most - l.passed - 1 = omega arith in
    rw one (omega (arith, l.invariant, list_goes h left l.b (omega arith) c.if-b-eq0.false, ap (list_length h (left - 1)) c.first_word-b.ensures))

pub returns : goal.returns
returns c =
    let l = c.loop-passed in
    omega (arith, l.invariant, list_stays (headers c.args.g.fields (words_of c.args.heap.now)) (c.args.most - l.passed) l.b (omega arith))
