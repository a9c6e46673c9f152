use native.Mathlib.Omega.{arith}
use Rattle.records.proofs.Numbers.{number_quad}
use Rattle.records.proofs.bytes.number4.Goals as goal

pub returns : goal.returns
returns c = number_quad _ _ (omega (arith, c.from_le_bytes.ensures))
