use mathlib.Core.Path.{◌≡◌, sym, ◌∙◌}
use native.Mathlib.Omega.{arith}
use Rattle.layout.proofs.Placing.{id_here, id_next, id_none}
use Rattle.layout.proofs.utils.id_place.Goals as goal

pub returns-then-id_at-id : goal.returns-then-id_at-id
returns-then-id_at-id c = (id_here _ _ _ _ c.id_at.ensures c.loop-k-test.true c.if-id_at-id.true ∙ sym c.loop-k.invariant, omega arith)

pub loop-k-preserved : goal.loop-k-preserved
loop-k-preserved c = c.loop-k.invariant ∙ id_next _ _ _ _ c.id_at.ensures c.loop-k-test.true c.if-id_at-id.false

pub returns : goal.returns
returns c =
    let e : c.loop-k.k ≡ c.args.n = omega arith in
    (sym e ∙ id_none _ _ _ _ c.loop-k-test.false ∙ sym c.loop-k.invariant, omega arith)
