use native.Mathlib.Omega.{arith}
use Rattle.records.proofs.Storing.{fields_stored, fields_too_long}
use Rattle.records.proofs.code.write_fields.Goals as goal

pub returns-then-at-out : goal.returns-then-at-out
returns-then-at-out c = fields_stored _ _ _ (omega arith) c.store_head.ensures c.store4.ensures c.store8.ensures c.store8-then-at-out.ensures

pub returns-else-out-ge24 : goal.returns-else-out-ge24
returns-else-out-ge24 c = fields_too_long _ _ _ (omega arith)
