use Rattle.records.proofs.CodesRead.{label_unmarked, label_marked}
use Rattle.records.proofs.code.is_label.Goals as goal

pub returns-then-s-at-ne40 : goal.returns-then-s-at-ne40
returns-then-s-at-ne40 c = label_unmarked c.args.s.now c.args.at c.args.label c.if-s-at-ne40.true

pub returns : goal.returns
returns c = label_marked c.args.s.now c.args.at c.args.label c.if-s-at-ne40.false c.number4.ensures
