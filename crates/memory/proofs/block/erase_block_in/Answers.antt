use Rattle.std.specs.Prelude.{Ok}
use mathlib.Core.Path.{refl, ap}
use native.Mathlib.Omega.{arith}
use Rattle.emit.proofs.Wrote.{refused, ample_if, at_once}
use Rattle.layout.proofs.Placing.{operand_range}
use Rattle.memory.specs.Blocks.{erase_block}
use Rattle.memory.specs.Answered.{erase_answer}
use Rattle.memory.proofs.Sizes.{erase_size}
use Rattle.memory.proofs.block.erase_block_in.Goals as goal

pub returns-then-not-operand_ok : goal.returns-then-not-operand_ok
unfolding erase_answer
returns-then-not-operand_ok c = rw (← c.operand_ok.ensures, c.if-not-operand_ok.true) (refused refl refl refl)

pub erase-q-requires : goal.erase-q-requires
erase-q-requires c =
    let w = operand_range _ _ c.operand_ok.ensures c.if-not-operand_ok.false in
    let fit = ample_if _ _ _ _ c.ample.ensures c.if-ample.true in
    (omega arith, omega (arith, fit.0), w.1, c.requires)

pub returns-then-ample : goal.returns-then-ample
unfolding erase_answer
returns-then-ample c =
    let a = c.args in
    let z = erase_size a.g a.w in
    let fit = ample_if _ _ _ _ c.ample.ensures c.if-ample.true in
    rw (← c.operand_ok.ensures, c.if-not-operand_ok.false)
    (at_once (erase_block a.g a.w) a.counter c.erase-q.ensures refl refl (ap (λ w. Ok w) c.up_to.ensures) (omega (arith, fit.0, z.0)) (omega (arith, fit.1, z.1)))

pub erase_sized-requires : goal.erase_sized-requires
erase_sized-requires c = ((operand_range _ _ c.operand_ok.ensures c.if-not-operand_ok.false).1, c.requires)

pub returns : goal.returns
unfolding erase_answer
returns c = rw (← c.operand_ok.ensures, c.if-not-operand_ok.false) c.erase_sized.ensures
