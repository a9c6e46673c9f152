use native.Mathlib.Omega.{arith}
use Rattle.machine.proofs.Labels.{found_two, found_one}
use Rattle.machine.proofs.run.find.Goals as goal

pub first-requires-2 : goal.first-requires-2
first-requires-2 c = let h = c.in_ok-k.ensures in (c.requires, omega arith)

pub returns-in-Some : goal.returns-in-Some
returns-in-Some c = found_two c.args.label c.args.s.now c.args.n c.in_ok-k.ensures c.in-Some.ensures

pub returns-in-None : goal.returns-in-None
returns-in-None c = found_one c.args.label c.args.s.now c.args.n c.in_ok-k.ensures c.in-None.ensures
