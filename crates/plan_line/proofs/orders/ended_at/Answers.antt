use Rattle.plan_line.specs.Orders.{ended}
use Rattle.plan_line.proofs.Finding.{starts, no_word}
use Rattle.plan_line.proofs.orders.ended_at.Goals as goal

pub returns-in-Some : goal.returns-in-Some
unfolding ended
returns-in-Some c = rw (starts c.word_at.ensures c.in-Some.is).words

pub returns-in-None : goal.returns-in-None
unfolding ended
returns-in-None c = rw (no_word c.word_at.ensures c.in-None.is)
