use borrow.Author.Tests.{le-leb, lt-leb, eq-eqb, ne_eqb}
use Rattle.print_i64.proofs.Saving.{nothing}
use Rattle.print_i64.proofs.save.pop_one.Goals as goal

pub returns-then-set-r-ne1 : goal.returns-then-set-r-ne1
returns-then-set-r-ne1 c = simp (ne_eqb _ _ c.if-set-r-ne1.true) nothing

pub returns-then-used-left : goal.returns-then-used-left
returns-then-used-left c = simp (eq-eqb _ _ c.if-set-r-ne1.false, le-leb _ _ c.if-used-left.true) c.emit.ensures

pub returns : goal.returns
returns c = simp (eq-eqb _ _ c.if-set-r-ne1.false, lt-leb _ _ c.if-used-left.false) nothing
