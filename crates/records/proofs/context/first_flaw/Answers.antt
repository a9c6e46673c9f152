use Rattle.std.specs.Prelude.{Ok}
use mathlib.Core.Path.{◌≡◌, ap, sym, ◌∙◌}
use native.Mathlib.Nat.{sub-zero}
use native.Mathlib.Omega.{arith}
use Rattle.records.proofs.ContextsRead.{done, bad_mark, bad_kind, turn}
use Rattle.records.proofs.context.first_flaw.Goals as goal

pub loop-k-init : goal.loop-k-init
loop-k-init c = (omega arith, rw sub-zero)

pub returns-then-marked : goal.returns-then-marked
returns-then-marked c =
    let l = c.loop-k in
    bad_kind _ _ _ _ l.invariant.1 (omega arith) c.marked.ensures c.if-marked.true c.sound.ensures c.if-not-sound.true

pub returns-then-not-sound : goal.returns-then-not-sound
returns-then-not-sound c =
    let l = c.loop-k in
    bad_mark _ _ _ _ l.invariant.1 (omega arith) c.marked.ensures c.if-marked.false

pub loop-k-preserved : goal.loop-k-preserved
loop-k-preserved c =
    let l = c.loop-k in
    (omega arith, turn _ _ _ _ l.invariant.1 (omega arith) c.sound.ensures c.if-not-sound.false)

pub returns : goal.returns
returns c =
    let e : c.loop-k.k ≡ c.args.n = omega arith in
    ap Ok (sym e) ∙ done _ _ _ _ c.loop-k.invariant.1 (omega arith)
