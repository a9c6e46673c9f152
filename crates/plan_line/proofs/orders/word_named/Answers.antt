use Rattle.plan_line.specs.Orders.{named_first}
use Rattle.plan_line.proofs.Same.{same_is_equal}
use Rattle.plan_line.proofs.orders.word_named.Goals as goal

pub returns-then-eq : goal.returns-then-eq
unfolding named_first
returns-then-eq c = rw (c.in-Ok.ensures.words, same_is_equal, ← c.eq.ensures, c.if-eq.true)

pub returns-else-eq : goal.returns-else-eq
unfolding named_first
returns-else-eq c = rw (c.in-Ok.ensures.words, same_is_equal, ← c.eq.ensures, c.if-eq.false)

pub returns-in-Err : goal.returns-in-Err
unfolding named_first
returns-in-Err c = rw c.in-Err.ensures.words
