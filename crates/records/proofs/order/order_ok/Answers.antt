use native.Mathlib.Omega.{arith}
use borrow.Author.Tests.{le-leb, lt-leb}
use Rattle.records.proofs.OrdersRead.{code_zero, code_above, by_most}
use Rattle.records.proofs.order.order_ok.Goals as goal

pub returns-then-f-eq0 : goal.returns-then-f-eq0
returns-then-f-eq0 c = code_zero _ c.if-f-eq0.true

pub returns-then-f-gt7 : goal.returns-then-f-gt7
returns-then-f-gt7 c = code_above _ c.if-f-gt7.true

-- `by_most` has the five tests, once the largest values are known: each that passed is written over, up to the one that failed or the last
pub returns-then-m-f : goal.returns-then-m-f
returns-then-m-f c =
    rw (
      by_most c.args.f c.if-f-eq0.false c.if-f-gt7.false c.most_in-m.ensures (omega arith) (omega arith) (omega arith) (omega arith),
      lt-leb _ _ c.if-m-f.true,
    )

pub returns-then-m-f-2 : goal.returns-then-m-f-2
returns-then-m-f-2 c =
    rw (
      by_most c.args.f c.if-f-eq0.false c.if-f-gt7.false c.most_in-m.ensures (omega arith) (omega arith) (omega arith) (omega arith),
      le-leb _ _ c.if-m-f.false,
      lt-leb _ _ c.if-m-f-2.true,
    )

pub returns-then-m-f-3 : goal.returns-then-m-f-3
returns-then-m-f-3 c =
    rw (
      by_most c.args.f c.if-f-eq0.false c.if-f-gt7.false c.most_in-m.ensures (omega arith) (omega arith) (omega arith) (omega arith),
      le-leb _ _ c.if-m-f.false,
      le-leb _ _ c.if-m-f-2.false,
      lt-leb _ _ c.if-m-f-3.true,
    )

pub returns-then-m-f-4 : goal.returns-then-m-f-4
returns-then-m-f-4 c =
    rw (
      by_most c.args.f c.if-f-eq0.false c.if-f-gt7.false c.most_in-m.ensures (omega arith) (omega arith) (omega arith) (omega arith),
      le-leb _ _ c.if-m-f.false,
      le-leb _ _ c.if-m-f-2.false,
      le-leb _ _ c.if-m-f-3.false,
      lt-leb _ _ c.if-m-f-4.true,
    )

pub returns : goal.returns
returns c =
    rw (
      by_most c.args.f c.if-f-eq0.false c.if-f-gt7.false c.most_in-m.ensures (omega arith) (omega arith) (omega arith) (omega arith),
      le-leb _ _ c.if-m-f.false,
      le-leb _ _ c.if-m-f-2.false,
      le-leb _ _ c.if-m-f-3.false,
      le-leb _ _ c.if-m-f-4.false,
    )
