use Prim.Native.Nat.{◌+◌, ◌*◌}
use native.Mathlib.Omega.{arith}
use Rattle.memory_bounds.proofs.Ample.{product_few}
use Rattle.memory_bounds.proofs.stored_within.Goals as goal

pub other_blocks-requires : goal.other_blocks-requires
other_blocks-requires c = (omega (arith, c.saturating_sub-rest.ensures, c.requires.0), c.requires.1)

pub overflow_mul-result-3 : goal.overflow_mul-result-3
overflow_mul-result-3 c =
    let few = product_few (16 * c.args.g.fields + 17) c.other_blocks.result (omega (arith, c.requires.1.few)) c.other_blocks.ensures.1 in
    omega arith

pub overflow_add-result-3 : goal.overflow_add-result-3
overflow_add-result-3 c =
    let few = product_few (16 * c.args.g.fields + 17) c.other_blocks.result (omega (arith, c.requires.1.few)) c.other_blocks.ensures.1 in
    omega (arith, c.requires.1.few)

pub returns : goal.returns
returns c =
    let few = product_few (16 * c.args.g.fields + 17) c.other_blocks.result (omega (arith, c.requires.1.few)) c.other_blocks.ensures.1 in
    (rw (c.other_blocks.ensures.0, c.saturating_sub-rest.ensures), omega (arith, c.requires.1.few))
