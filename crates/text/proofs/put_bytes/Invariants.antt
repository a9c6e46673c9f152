use lib.ListN.{take}
use Rattle.text.specs.Putting.{Puts}
use Rattle.text.proofs.put_bytes.Given as goal

abbrev pub invariant-loop-b : goal.invariant-loop-b
invariant-loop-b l = Puts l.b-index l.initial.text l.at l.text l.next (take l.b-index l.s)
