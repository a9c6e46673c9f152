use Rattle.records.proofs.CodesRead.{fields_part}
use Rattle.records.proofs.code.fields_at.Goals as goal

pub returns : goal.returns
returns c = fields_part _ _ c.number4-label.ensures c.number8-offset.ensures c.number8-value.ensures
