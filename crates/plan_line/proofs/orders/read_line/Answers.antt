use Rattle.std.proofs.Common.{sym, ◌∙◌}
use Rattle.plan_line.specs.Orders.{line_of}
use Rattle.plan_line.proofs.Finding.{starts, no_word}
use Rattle.plan_line.proofs.orders.read_line.Goals as goal

pub returns-in_default : goal.returns-in_default
unfolding line_of
returns-in_default c = rw (no_word c.word_at.ensures c.in_default.is)

pub returns-in_default-name_of : goal.returns-in_default-name_of
unfolding line_of
returns-in_default-name_of c = rw ((starts c.word_at.ensures c.in-Some.is).words, sym c.name_of.ensures ∙ c.in_default-name_of.is)

pub read_named-requires : goal.read_named-requires
read_named-requires c = (starts c.word_at.ensures c.in-Some.is).within

pub returns : goal.returns
unfolding line_of
returns c = rw ((starts c.word_at.ensures c.in-Some.is).words, sym c.name_of.ensures ∙ c.in-Some-name_of.is) (rw (starts c.word_at.ensures c.in-Some.is).words at c.read_named.ensures)
