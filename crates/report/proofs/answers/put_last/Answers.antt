use Prim.Native.Nat.{◌+◌, ◌-◌}
use mathlib.Core.Path.{◌≡◌}
use native.Mathlib.Omega.{arith}
use Rattle.text.proofs.Putting.{◌⨟◌}
use Rattle.layout.specs.Config.{positions}
use Rattle.report.proofs.answers.put_last.Goals as goal

pub returns : goal.returns
returns c = let g = c.args.g in let last : positions g - 1 ≡ g.spills + 10 = omega arith in rw last (c.put_count-next.ensures ⨟ c.put_bytes.ensures)
