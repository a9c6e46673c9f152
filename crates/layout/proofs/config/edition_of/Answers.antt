use Rattle.layout.proofs.Placing.{first_edition, second_edition, no_edition}
use Rattle.layout.proofs.config.edition_of.Goals as goal

pub returns-then-edition-eq1 : goal.returns-then-edition-eq1
returns-then-edition-eq1 c = first_edition _ c.if-edition-eq1.true c.base.ensures.0

pub returns-then-edition-eq2 : goal.returns-then-edition-eq2
returns-then-edition-eq2 c = second_edition _ c.if-edition-eq1.false c.if-edition-eq2.true c.second.ensures.0

pub returns : goal.returns
returns c = no_edition _ c.if-edition-eq1.false c.if-edition-eq2.false
