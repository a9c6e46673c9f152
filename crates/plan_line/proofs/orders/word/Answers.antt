use Rattle.std.proofs.Common.{refl}
use Rattle.plan_line.proofs.Finding.{starts, no_word}
use Rattle.plan_line.proofs.orders.word.Goals as goal

pub returns-in_default : goal.returns-in_default
returns-in_default c = record { missing = refl; words = no_word c.word_at.ensures c.in_default.is }

pub returns : goal.returns
returns c = record { rest = _; words = (starts c.word_at.ensures c.in-Some.is).words }
