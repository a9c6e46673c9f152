use Rattle.std.specs.Prelude.{Ok}
use mathlib.Core.Path.{refl, ap}
use native.Mathlib.Omega.{arith}
use borrow.Author.Tests.{lt-ltb, le-ltb}
use Rattle.records.specs.Names.{most_count}
use Rattle.emit.proofs.Wrote.{refused, ample_if, at_once}
use Rattle.layout.proofs.Placing.{operand_range}
use Rattle.memory.specs.Blocks.{share_block}
use Rattle.memory.specs.Answered.{share_answer}
use Rattle.memory.proofs.Sizes.{share_size}
use Rattle.memory.proofs.block.share_block_n_in.Goals as goal

pub returns-then-not-operand_ok : goal.returns-then-not-operand_ok
unfolding share_answer
returns-then-not-operand_ok c = rw (← c.operand_ok.ensures, c.if-not-operand_ok.true) (refused refl refl refl)

pub returns-then-n-gt-MOST_COUNT : goal.returns-then-n-gt-MOST_COUNT
unfolding share_answer
returns-then-n-gt-MOST_COUNT c = rw (← c.operand_ok.ensures, c.if-not-operand_ok.false, lt-ltb most_count _ c.if-n-gt-MOST_COUNT.true) (refused refl refl refl)

pub share-q-requires : goal.share-q-requires
share-q-requires c =
    let w = operand_range _ _ c.operand_ok.ensures c.if-not-operand_ok.false in
    let fit = ample_if _ _ _ _ c.ample.ensures c.if-ample.true in
    (omega arith, omega (arith, fit.0), w.1, c.requires)

pub returns-then-ample : goal.returns-then-ample
unfolding share_answer
returns-then-ample c =
    let a = c.args in
    let z = share_size a.g a.w a.n in
    let fit = ample_if _ _ _ _ c.ample.ensures c.if-ample.true in
    rw (← c.operand_ok.ensures, c.if-not-operand_ok.false, le-ltb most_count _ c.if-n-gt-MOST_COUNT.false)
    (at_once (share_block a.g a.w a.n) a.counter c.share-q.ensures refl refl (ap (λ w. Ok w) c.up_to.ensures) (omega (arith, fit.0, z.0)) (omega (arith, fit.1, z.1)))

pub share_sized-requires : goal.share_sized-requires
share_sized-requires c = ((operand_range _ _ c.operand_ok.ensures c.if-not-operand_ok.false).1, c.requires)

pub returns : goal.returns
unfolding share_answer
returns c = rw (← c.operand_ok.ensures, c.if-not-operand_ok.false, le-ltb most_count _ c.if-n-gt-MOST_COUNT.false) c.share_sized.ensures
