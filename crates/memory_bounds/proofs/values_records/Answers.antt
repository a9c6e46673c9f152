use native.Mathlib.Omega.{arith}
use Rattle.memory_bounds.proofs.Linked.{values_records}
use Rattle.memory_bounds.proofs.values_records.Goals as goal

pub overflow_sub-registers : goal.overflow_sub-registers
overflow_sub-registers c = omega (arith, c.saturating_sub.ensures, c.saturating_sub-2.ensures)

pub overflow_mul-result-2 : goal.overflow_mul-result-2
overflow_mul-result-2 c = omega (arith, c.saturating_sub.ensures)

pub overflow_sub-result : goal.overflow_sub-result
overflow_sub-result c = omega (arith, c.saturating_sub.ensures, c.saturating_sub-2.ensures, values_records c.args.g c.args.v c.args.k c.args.free c.requires.0)

pub returns : goal.returns
returns c =
    let z = values_records c.args.g c.args.v c.args.k c.args.free c.requires.0 in
    (omega (arith, c.saturating_sub.ensures, c.saturating_sub-2.ensures, z), omega (arith, z))
