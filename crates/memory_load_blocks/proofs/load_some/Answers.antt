use Prim.Native.Nat.{◌-◌}
use native.Mathlib.Omega.{arith}
use Rattle.memory.proofs.Sizes.{chunks_few}
use Rattle.memory_load_blocks.proofs.load_some.Goals as goal

pub overflow_sub-each : goal.overflow_sub-each
overflow_sub-each c = omega (arith, c.requires.5.some)

pub other_blocks-requires : goal.other_blocks-requires
other_blocks-requires c =
    let w = c.requires in
    (omega (arith, c.saturating_sub-rest.ensures, w.2, w.5.frame), w.5)

pub load_all-requires : goal.load_all-requires
load_all-requires c =
    let a = c.args in
    let w = c.requires in
    let blocks = c.other_blocks.ensures in
    let few = rw (← blocks.0) at (chunks_few (a.g.fields - 1) c.saturating_sub-rest.result (omega (arith, w.5.some))) in (
      record { from_first = w.0; known = w.1; placed = w.2; linked_by_last = omega (arith, w.5.some); before_last = c.saturating_sub-rest.ensures; blocks = blocks.0; supported = w.5 },
      omega (arith, w.2, w.3, w.5.few, w.5.frame, few, c.saturating_sub-rest.ensures),
      omega (arith, w.2, w.4, w.5.few, w.5.frame, few, c.saturating_sub-rest.ensures),
    )

pub returns : goal.returns
returns c = c.load_all.ensures
