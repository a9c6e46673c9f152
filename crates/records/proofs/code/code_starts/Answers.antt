use Rattle.records.proofs.CodesRead.{starts_unmarked, starts_marked}
use Rattle.records.proofs.code.code_starts.Goals as goal

pub returns-then-s-at : goal.returns-then-s-at
returns-then-s-at c = starts_unmarked c.args.s.now c.args.at c.requires c.if-s-at.true

pub returns : goal.returns
returns c = starts_marked c.args.s.now c.args.at c.requires c.if-s-at.false c.fields_at.ensures c.fields_ok.ensures
