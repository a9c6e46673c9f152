use Rattle.std.proofs.Common.{◌*◌}
use Rattle.listing.specs.Names.{code_names}
use Rattle.listing.specs.Listing.{lines}
use Rattle.text.specs.Putting.{Puts}
use Rattle.listing.proofs.lines.put_lines.Given as goal

abbrev pub invariant-loop-k : goal.invariant-loop-k
invariant-loop-k l = Puts (140 * l.k) l.initial.text l.at l.text l.next (lines code_names l.records l.k)
