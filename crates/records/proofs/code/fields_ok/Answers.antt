use Rattle.records.proofs.Uses.{code_zero, code_above, code_listed}
use Rattle.records.proofs.code.fields_ok.Goals as goal

pub returns-then-f-eq0 : goal.returns-then-f-eq0
returns-then-f-eq0 c = code_zero _ c.if-f-eq0.true

pub returns-then-f-gt44 : goal.returns-then-f-gt44
returns-then-f-gt44 c = code_above _ c.if-f-gt44.true

pub returns : goal.returns
returns c = code_listed _ c.if-f-eq0.false c.if-f-gt44.false c.operands_ok.ensures
