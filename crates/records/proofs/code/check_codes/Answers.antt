use Prim.Native.Nat.{◌*◌}
use mathlib.Core.Path.{◌≡◌, refl, sym}
use native.Mathlib.Omega.{arith}
use Rattle.records.proofs.Answers.{answers_by}
use Rattle.records.proofs.Checking.{begun, turn, left_over, bad, done}
use Rattle.records.proofs.CodesRead.{starts_short}
use Rattle.records.proofs.code.check_codes.Goals as goal

pub loop-k-init : goal.loop-k-init
loop-k-init c = (omega arith, begun _ _ _ _)

pub returns-then-not-code_starts : goal.returns-then-not-code_starts
returns-then-not-code_starts c =
    let l = c.loop-k in
    answers_by (bad _ _ _ _ _ _ _ refl l.invariant.1 (omega arith) (omega arith) c.code_starts.ensures c.if-not-code_starts.true)

pub loop-k-preserved : goal.loop-k-preserved
loop-k-preserved c =
    let l = c.loop-k in
    (omega arith, turn _ _ _ _ _ _ _ refl l.invariant.1 (omega arith) (omega arith) c.code_starts.ensures c.if-not-code_starts.false)

-- a record past the limit, or a part of one
pub returns-then-n-s : goal.returns-then-n-s
returns-then-n-s c =
    let l = c.loop-k in
    let s = c.args.s.now in
    let e : l.k ≡ c.min-n.result = omega arith in
    rw (← e) (answers_by (left_over _ _ _ _ _ _ _ refl l.invariant.1 (omega arith) (λ h. sym (starts_short s (24 * l.k) (omega arith) (omega arith)))))

pub returns : goal.returns
returns c =
    let e : c.loop-k.k ≡ c.min-n.result = omega arith in
    rw (← e) (answers_by (done _ _ _ _ _ _ _ refl c.loop-k.invariant.1 (omega arith)))
