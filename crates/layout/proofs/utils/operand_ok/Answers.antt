use mathlib.Core.Path.{◌∙◌}
use borrow.Author.Tests.{lt-ltb, lt-leb, le-ltb}
use Rattle.layout.proofs.Placing.{reserved, beyond, register, spilled}
use Rattle.layout.proofs.utils.operand_ok.Goals as goal

pub returns-else-w-ge4 : goal.returns-else-w-ge4
returns-else-w-ge4 c = lt-leb 4 _ c.if-w-ge4.false ∙ reserved _ _ c.if-w-ge4.false

pub returns-then-w-lt16 : goal.returns-then-w-lt16
returns-then-w-lt16 c = lt-ltb _ 16 c.if-w-lt16.true ∙ register _ _ c.if-w-ge4.true c.if-w-lt16.true

pub returns-then-w-g : goal.returns-then-w-g
returns-then-w-g c = spilled _ _ c.if-w-lt16.false c.if-w-g.true

pub returns-else-w-g : goal.returns-else-w-g
returns-else-w-g c = le-ltb _ _ c.if-w-g.false ∙ beyond _ _ c.if-w-lt16.false c.if-w-g.false
