use Rattle.std.proofs.Common.{sym, ◌∙◌, ap, position}
use Rattle.plan_line.specs.Words.{sought_in}
use Rattle.plan_line.proofs.Searching.{tail_part, found_at, found_none}
use Rattle.plan_line.proofs.words.find.Goals as goal

pub returns-in-Some : goal.returns-in-Some
returns-in-Some c = found_at _ _ _ (ap (position (sought_in c.args.sought)) (sym (tail_part c.args.s.now c.args.at)) ∙ sym c.first.ensures ∙ c.in-Some.is)

pub returns-in-None : goal.returns-in-None
returns-in-None c = found_none _ _ _ c.requires (ap (position (sought_in c.args.sought)) (sym (tail_part c.args.s.now c.args.at)) ∙ sym c.first.ensures ∙ c.in-None.is)
