use borrow.Author.Tests.{lt-ltb, le-ltb, eq-eqb, ne_eqb}
use Rattle.print_i64.proofs.Saving.{nothing}
use Rattle.print_i64.proofs.save.move_one.Goals as goal

pub returns-then-set-r-ne1 : goal.returns-then-set-r-ne1
returns-then-set-r-ne1 c = simp (ne_eqb _ _ c.if-set-r-ne1.true) nothing

pub returns-then-back : goal.returns-then-back
returns-then-back c = simp (eq-eqb _ _ c.if-set-r-ne1.false, lt-ltb _ _ c.if-done-used.true, c.if-back.true) c.emit.ensures

pub returns-then-done-used : goal.returns-then-done-used
returns-then-done-used c = simp (eq-eqb _ _ c.if-set-r-ne1.false, lt-ltb _ _ c.if-done-used.true, c.if-back.false) c.emit-then-done-used.ensures

pub returns-then-back-2 : goal.returns-then-back-2
returns-then-back-2 c = simp (eq-eqb _ _ c.if-set-r-ne1.false, le-ltb _ _ c.if-done-used.false, c.if-back-2.true) nothing

pub returns : goal.returns
returns c = simp (eq-eqb _ _ c.if-set-r-ne1.false, le-ltb _ _ c.if-done-used.false, c.if-back-2.false) c.emit-2.ensures
