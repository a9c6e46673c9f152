use native.Mathlib.Omega.{arith}
use Rattle.records.proofs.BindingsRead.{binding_stored, binding_too_long}
use Rattle.records.proofs.binding.write_binding.Goals as goal

pub returns-then-at-out : goal.returns-then-at-out
returns-then-at-out c = binding_stored _ _ _ (omega arith) c.from.ensures c.store_head.ensures c.store4.ensures

pub returns-else-out-ge8 : goal.returns-else-out-ge8
returns-else-out-ge8 c = binding_too_long _ _ _ (omega arith)
