use Rattle.std.specs.Prelude.{Err}
use mathlib.Core.Path.{ap, ◌∙◌}
use Rattle.layout.specs.declared.config.Unshaped.{Unshaped}
use Rattle.layout.proofs.Placing.{handed_on}
use Rattle.order.proofs.Answering.{begun_with, begun_refused, read_unframed, unframed_answered, unread_shaped, answered}
use Rattle.order.proofs.order.order_in.Goals as goal

pub returns-in_err-k : goal.returns-in_err-k
returns-in_err-k c =
    rw (handed_on c.from_residual.result c.from_residual.ensures.1)
    (unread_shaped _ c.requires.1 _ _ (begun_refused c.begin.ensures c.in_err-k.was))

pub judge-requires : goal.judge-requires
judge-requires c =
    let u = begun_with c.begin.ensures c.in_ok-k.was in
    (u.context_good, u.bindings_good, c.requires.0 _ c.in-Ok.is)

pub returns-in-Ok : goal.returns-in-Ok
returns-in-Ok c = rw c.in-Ok.is (answered _ _ _ (begun_with c.begin.ensures c.in_ok-k.was) c.judge.ensures)

pub returns-in-Err-NoFrame : goal.returns-in-Err-NoFrame
returns-in-Err-NoFrame c =
    let f = c.in-Err-NoFrame in
    rw (f.is, rw f.is at f.field-0-is) (unframed_answered _ (read_unframed (begun_with c.begin.ensures c.in_ok-k.was)))

pub returns-in-Err-NoEdition : goal.returns-in-Err-NoEdition
returns-in-Err-NoEdition c =
    let f = c.in-Err-NoEdition in
    absurd (c.requires.1 (f.is ∙ ap (λ (r : Unshaped). Err r) (rw f.is at f.field-0-is)))
