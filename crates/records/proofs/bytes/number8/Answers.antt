use native.Mathlib.Omega.{arith}
use Rattle.records.proofs.Numbers.{number_halves}
use Rattle.records.proofs.bytes.number8.Goals as goal

pub returns : goal.returns
returns c = number_halves _ _ c.number4.ensures c.number4-2.ensures (omega arith)
