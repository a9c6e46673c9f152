use Rattle.std.proofs.Common.{arith}
use Rattle.text.proofs.Putting.{nothing, at_most}
use Rattle.plan_line.proofs.Finding.{starts, no_word}
use Rattle.plan.proofs.Putting.{none_follow, load_follows, nothing_loaded}
use Rattle.plan.proofs.lines.put_following.Goals as goal

pub returns-in_default : goal.returns-in_default
returns-in_default c = rw (none_follow c.args.o _ c.in_default.not-Load) (at_most (nothing _ _) (omega arith))

pub returns-in_default-word_at : goal.returns-in_default-word_at
returns-in_default-word_at c = nothing_loaded c.in-Load.is _ _ _ (no_word c.word_at.ensures c.in_default-word_at.is)

pub put_kinds-requires : goal.put_kinds-requires
put_kinds-requires c = ((starts c.word_at.ensures c.in-Some.is).within, omega arith)

pub returns : goal.returns
returns c = at_most (load_follows c.in-Load.is (starts c.word_at.ensures c.in-Some.is).words c.put_kinds.ensures) (omega arith)
