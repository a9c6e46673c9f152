use Prim.Native.Nat.{ℕ, ◌+◌, ◌*◌, ◌-◌}
use mathlib.Core.Path.{◌≡◌}
use native.Mathlib.Omega.{arith}
use Rattle.memory_bounds.specs.Bounds.{other_blocks}
use Rattle.memory_bounds.proofs.Ample.{product_few}
use Rattle.memory_bounds.proofs.loaded_within.Goals as goal

-- the records of both ways added up
both : (f c m : ℕ) → f ≡ c + 1 → 12 * f + 15 + (12 * c + 8) * m ≡ 4 * f + 5 + (8 * f + 3) + (4 * c + 5 + (8 * c + 3)) * m + 7
both f c m e =
    let a : (12 * c + 8) * m ≡ 12 * (c * m) + 8 * m = omega arith in
    let b : (4 * c + 5 + (8 * c + 3)) * m ≡ 12 * (c * m) + 8 * m = omega arith in
    omega arith

pub overflow_sub-each : goal.overflow_sub-each
overflow_sub-each c = omega (arith, c.requires.1.some)

pub other_blocks-requires : goal.other_blocks-requires
other_blocks-requires c = (omega (arith, c.saturating_sub-rest.ensures, c.requires.0), c.requires.1)

pub overflow_mul-result-3 : goal.overflow_mul-result-3
overflow_mul-result-3 c =
    let few = product_few (12 * (c.args.g.fields - 1) + 8) c.other_blocks.result (omega (arith, c.requires.1.few)) c.other_blocks.ensures.1 in
    omega arith

pub overflow_add-result-3 : goal.overflow_add-result-3
overflow_add-result-3 c =
    let few = product_few (12 * (c.args.g.fields - 1) + 8) c.other_blocks.result (omega (arith, c.requires.1.few)) c.other_blocks.ensures.1 in
    omega (arith, c.requires.1.few)

pub returns : goal.returns
returns c =
    let a = c.args in
    let f : ℕ = a.g.fields in
    let few = product_few (12 * (f - 1) + 8) c.other_blocks.result (omega (arith, c.requires.1.few)) c.other_blocks.ensures.1 in
    (rw (c.other_blocks.ensures.0, c.saturating_sub-rest.ensures) (both f (f - 1) (other_blocks a.g a.n) (omega (arith, c.requires.1.some))), omega (arith, c.requires.1.few))
