use Prim.Native.Nat.{◌-◌}
use mathlib.Core.Path.{sym, ap, ◌∙◌}
use native.Mathlib.Omega.{arith}
use lib.ListN.{length}
use Rattle.emit.proofs.Laws.{length_fields}
use Rattle.print_i64.specs.Saved.{pop_one}
use Rattle.print_i64.proofs.Saving.{nothing, joined, none_popped, popped, pops_next, pops_most, left_before, left_next, pops_down}
use Rattle.print_i64.proofs.save.pop_all.Goals as goal

pub loop-r-init : goal.loop-r-init
loop-r-init c =
    let a = c.args in
    let saved = c.requires.2 in
    (omega arith, c.requires.1 ∙ ap length (sym saved.1), rw (← (none_popped a.used a.set saved)) nothing)

pub overflow_sub-left : goal.overflow_sub-left
overflow_sub-left c =
    let l = c.loop-r in
    omega (arith, l.invariant.1, left_before l.r c.args.set (omega arith))

pub pop_one-q-requires : goal.pop_one-q-requires
pop_one-q-requires c =
    let a = c.args in
    let l = c.loop-r in
    (omega (arith, l.invariant.2.place, length_fields (pops_down a.used 16 (16 - l.r) a.set), pops_most a.used 16 (16 - l.r) a.set), omega arith)

pub loop-r-preserved : goal.loop-r-preserved
loop-r-preserved c =
    let a = c.args in
    let l = c.loop-r in
    let n = left_next l.r a.set l.left (omega arith) l.invariant.1 in
    (omega arith, n, rw (pops_next a.used l.r a.set (omega arith) (omega arith), ← n) (joined (pops_down a.used 16 (16 - l.r) a.set) (pop_one a.used _ _ a.set) l.invariant.2 c.pop_one-q.ensures))

pub returns : goal.returns
returns c =
    let l = c.loop-r in
    popped c.args.used c.args.set c.requires.2 (omega arith) l.invariant.2
