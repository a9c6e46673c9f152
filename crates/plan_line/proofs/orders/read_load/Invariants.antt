use Rattle.std.proofs.Common.{◌≡◌, ◌≤◌, length, drop}
use Rattle.plan_line.specs.Words.{words_in}
use Rattle.plan_line.specs.Orders.{load_line}
use Rattle.plan_line.proofs.orders.read_load.Given as goal

abbrev pub invariant-loop-n : goal.invariant-loop-n
invariant-loop-n l = (l.at ≤ length l.line) × (load_line 0 (words_in (drop l.from l.line)) ≡ load_line l.n (words_in (drop l.at l.line)))
