use Prim.Native.Nat.{◌+◌, ◌-◌}
use mathlib.Core.Path.{◌≡◌}
use native.Mathlib.Omega.{arith}
use Rattle.emit.proofs.Laws.{◌⨾◌}
use Rattle.routine.proofs.Parts.{next_argument, none_left}
use Rattle.routine.proofs.into_routine.move_arguments.Goals as goal

pub loop-i-init : goal.loop-i-init
loop-i-init c = let e : c.args.n + 1 - 1 ≡ c.args.n = omega arith in (omega arith, omega arith, rw e (λ o r d. d))

pub loop-i-preserved : goal.loop-i-preserved
loop-i-preserved c =
    let l = c.loop-i in
    let d = c.emit-q.ensures in
    (omega arith, omega (arith, l.invariant.1, d.place), λ o r x. l.invariant.2 o r (rw (next_argument (l.i - 1) (omega arith), ← c.arg.ensures) (d ⨾ x)))

pub returns : goal.returns
returns c = let l = c.loop-i in l.invariant.2 _ _ (none_left {n = l.i - 1} (omega arith))
