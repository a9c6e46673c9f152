use native.Mathlib.Omega.{arith}
use borrow.Author.Tests.{le-leb, lt-leb}
use Rattle.records.specs.Instructions.{used}
use Rattle.records.proofs.Uses.{by_most}
use Rattle.records.proofs.code.operands_ok.Goals as goal

-- `by_most` has the five tests, once the largest values are known: each that passed is written over, up to the one that failed or the last
pub returns-then-m-f : goal.returns-then-m-f
returns-then-m-f c = rw (by_most (used c.args.f.code) c.args.f c.most_of-m.ensures (omega arith) (omega arith) (omega arith), lt-leb _ _ c.if-m-f.true)

pub returns-then-m-f-2 : goal.returns-then-m-f-2
returns-then-m-f-2 c = rw (by_most (used c.args.f.code) c.args.f c.most_of-m.ensures (omega arith) (omega arith) (omega arith), le-leb _ _ c.if-m-f.false, lt-leb _ _ c.if-m-f-2.true)

pub returns-then-not-label_within : goal.returns-then-not-label_within
returns-then-not-label_within c =
    rw (
      by_most (used c.args.f.code) c.args.f c.most_of-m.ensures (omega arith) (omega arith) (omega arith),
      le-leb _ _ c.if-m-f.false,
      le-leb _ _ c.if-m-f-2.false,
      ← c.label_within.ensures,
      c.if-not-label_within.true,
    )

pub returns-then-m-f-3 : goal.returns-then-m-f-3
returns-then-m-f-3 c =
    rw (
      by_most (used c.args.f.code) c.args.f c.most_of-m.ensures (omega arith) (omega arith) (omega arith),
      le-leb _ _ c.if-m-f.false,
      le-leb _ _ c.if-m-f-2.false,
      ← c.label_within.ensures,
      c.if-not-label_within.false,
      lt-leb _ _ c.if-m-f-3.true,
    )

pub returns : goal.returns
returns c =
    rw (
      by_most (used c.args.f.code) c.args.f c.most_of-m.ensures (omega arith) (omega arith) (omega arith),
      le-leb _ _ c.if-m-f.false,
      le-leb _ _ c.if-m-f-2.false,
      ← c.label_within.ensures,
      c.if-not-label_within.false,
      le-leb _ _ c.if-m-f-3.false,
    )
