use Rattle.plan_line.specs.Orders.{load_of}
use Rattle.plan_line.proofs.Finding.{starts, no_word}
use Rattle.plan_line.proofs.orders.load_of.Goals as goal

pub returns-in-Some : goal.returns-in-Some
unfolding load_of
returns-in-Some c = rw (starts c.next_word.ensures c.in-Some.is).words

pub returns-in-None : goal.returns-in-None
unfolding load_of
returns-in-None c = rw (no_word c.next_word.ensures c.in-None.is)
