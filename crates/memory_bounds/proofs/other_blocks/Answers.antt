use mathlib.Core.Path.{refl, sym}
use native.Mathlib.Omega.{arith}
use Rattle.memory_bounds.proofs.Ample.{chunks_most, no_blocks}
use Rattle.memory_bounds.proofs.other_blocks.Goals as goal

pub returns-then-rest-eq0 : goal.returns-then-rest-eq0
returns-then-rest-eq0 c = (sym (no_blocks c.args.g c.requires.1 c.args.rest c.if-rest-eq0.true), omega arith)

pub overflow_sub-each : goal.overflow_sub-each
overflow_sub-each c = omega (arith, c.requires.1.some)

pub overflow_sub-result : goal.overflow_sub-result
overflow_sub-result c = omega (arith, c.requires.1.some)

pub nonzero_div-result : goal.nonzero_div-result
nonzero_div-result c = omega (arith, c.requires.1.some)

pub returns : goal.returns
returns c = (refl, chunks_most c.args.g c.requires.1 c.args.rest c.requires.0)
