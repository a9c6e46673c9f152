use Rattle.records.proofs.ContextsRead.{mark_missing, mark_there}
use Rattle.records.proofs.context.sound.Goals as goal

pub returns-then-head-ne-MARK : goal.returns-then-head-ne-MARK
returns-then-head-ne-MARK c =
    let a = c.args in
    mark_missing a.s.now a.at (λ j. (c.type_inv.s j).fits) c.number4-head.ensures c.if-head-ne-MARK.true

pub returns : goal.returns
returns c =
    let a = c.args in
    mark_there a.s.now a.at (λ j. (c.type_inv.s j).fits) c.number4-head.ensures c.if-head-ne-MARK.false
