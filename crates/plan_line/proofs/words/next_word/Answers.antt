use Rattle.plan_line.specs.Finding.{word, none}
use Rattle.plan_line.proofs.Finding.{none_found, word_found}
use Rattle.plan_line.proofs.words.next_word.Goals as goal

pub returns-then-start-line : goal.returns-then-start-line
returns-then-start-line c = word (word_found _ _ c.requires c.find-start.ensures c.if-start-line.true c.find.ensures)

pub returns-else-start-line : goal.returns-else-start-line
returns-else-start-line c = none (none_found _ _ c.requires c.find-start.ensures c.if-start-line.false)
