use native.Mathlib.Omega.{arith}
use Rattle.text.proofs.Putting.{at_most, ◌⨟◌}
use Rattle.report.proofs.answers.put_binding.Goals as goal

pub returns : goal.returns
returns c = at_most (c.put_count-next.ensures ⨟ c.put_bytes.ensures) (omega (arith, c.requires))
