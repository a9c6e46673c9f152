use Prim.Native.Nat.{ℕ, ◌+◌, ◌-◌}
use mathlib.Core.Path.{refl}
use mathlib.Core.Bool.{Bool}
use native.Mathlib.Omega.{arith}
use lib.Dec.{ltb}
use Rattle.emit.proofs.Laws.{emits_nop}
use Rattle.memory.specs.Objects.{ext_in}
use Rattle.memory.proofs.Sizes.{block_size}
use Rattle.memory_load_blocks.proofs.Blocks.{filled, end_most, bounded, none_yet, all_loaded, one_more}
use Rattle.memory_load_blocks.proofs.load_all.Goals as goal

pub overflow_add-to : goal.overflow_add-to
overflow_add-to c =
    let all = c.requires.0 in
    omega (arith, all.linked_by_last, all.before_last, all.placed, all.supported.few, all.supported.frame)

pub overflow_mul-to : goal.overflow_mul-to
overflow_mul-to c =
    let all = c.requires.0 in
    omega (arith, (filled all).1, all.linked_by_last, all.before_last, all.placed, all.supported.few, all.supported.frame)

pub overflow_sub-to : goal.overflow_sub-to
overflow_sub-to c = omega (arith, (filled c.requires.0).1)

pub loop-i-init : goal.loop-i-init
loop-i-init c =
    let w = c.requires in
    let f = filled w.0 in
    (record { ends = omega (arith, f.1); begins = omega (arith, f.0) }, omega (arith, w.1), omega (arith, w.2), λ all. rw (none_yet all (ext_in c.args.kinds.now c.args.first) c.args.shared) emits_nop)

pub freed_before-aside-requires : goal.freed_before-aside-requires
freed_before-aside-requires c =
    let b = bounded c.requires.0 c.loop-i.invariant.0 (omega (arith, c.loop-i-test.true)) refl c.either-end.ensures in
    omega (arith, b.end_placed, b.from_before, c.requires.0.supported.frame)

pub overflow_add-v : goal.overflow_add-v
overflow_add-v c =
    let b = bounded c.requires.0 c.loop-i.invariant.0 (omega (arith, c.loop-i-test.true)) refl c.either-end.ensures in
    omega (arith, b.end_placed, b.from_before, c.requires.0.supported.frame)

pub overflow_sub-end : goal.overflow_sub-end
overflow_sub-end c = (bounded c.requires.0 c.loop-i.invariant.0 (omega (arith, c.loop-i-test.true)) refl c.either-end.ensures).from_before

pub load_block-q-requires : goal.load_block-q-requires
load_block-q-requires c =
    let w = c.requires in
    let l = c.loop-i in
    let b = bounded w.0 l.invariant.0 (omega (arith, c.loop-i-test.true)) refl c.either-end.ensures in
    (omega (arith, w.0.from_first), omega (arith, w.0.known, b.end_known, b.from_before), omega (arith, b.end_placed, b.from_before), b.end_held, omega (arith, l.invariant.1, c.loop-i-test.true), omega (arith, l.invariant.2, c.loop-i-test.true, b.end_few), w.0.supported)

pub overflow_add-to-in-loop-i : goal.overflow_add-to-in-loop-i
overflow_add-to-in-loop-i c =
    let l = c.loop-i in
    let all = c.requires.0 in
    omega (arith, end_most all l.invariant.0 (omega (arith, c.loop-i-test.true)), all.before_last, all.placed, all.linked_by_last, all.supported.few, all.supported.frame)

pub loop-i-preserved : goal.loop-i-preserved
loop-i-preserved c =
    let a = c.args in
    let w = c.requires in
    let l = c.loop-i in
    let d = c.load_block-q.ensures in
    let ext : ℕ → Bool = ext_in a.kinds.now a.first in
    let b = bounded w.0 l.invariant.0 (omega (arith, c.loop-i-test.true)) refl c.either-end.ensures in
    let z = block_size a.g ext a.shared (ltb l.i a.m) c.freed_before-aside.result (a.v + l.from) (c.either-end.result - l.from) in (
      record { ends = omega (arith, l.invariant.0.ends); begins = omega arith },
      omega (arith, l.invariant.1, d.place, z.1, b.end_few),
      omega (arith, l.invariant.2, d.drawn, z.0, b.end_few),
      λ all. one_more all ext a.shared l.i l.from l.to (omega (arith, c.loop-i-test.true)) l.invariant.0 refl c.either-end.ensures c.freed_before-aside.ensures (l.invariant.3 all) d,
    )

pub returns : goal.returns
returns c =
    let a = c.args in
    let l = c.loop-i in
    rw (← (all_loaded c.requires.0 (ext_in a.kinds.now a.first) a.shared l.i l.from (omega (arith, c.loop-i-test.false)))) (l.invariant.3 c.requires.0)
