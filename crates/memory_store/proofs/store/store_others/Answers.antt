use Prim.Native.Nat.{◌+◌, ◌-◌}
use mathlib.Core.Path.{◌≡◌}
use native.Mathlib.Omega.{arith}
use Rattle.emit.proofs.Laws.{◌⨟◌, emits_nop}
use Rattle.memory.specs.Objects.{ext_in, store_other}
use Rattle.memory.proofs.Sizes.{store_other_size}
use Rattle.memory.proofs.Unfolded.{next_other}
use Rattle.memory_store.proofs.store.store_others.Goals as goal

pub loop-init : goal.loop-init
loop-init c = let w = c.requires in let e : c.args.m - 0 ≡ c.args.m = omega arith in (omega arith, omega (arith, w.3), omega (arith, w.4), rw e (λ o r d. d))

pub overflow_add-v : goal.overflow_add-v
overflow_add-v c = let r = c.saturating_sub-rest.ensures in let l = c.loop.invariant.0 in omega arith

pub overflow_sub-left : goal.overflow_sub-left
overflow_sub-left c = let r = c.saturating_sub-rest.ensures in omega arith

pub store_other-q-requires : goal.store_other-q-requires
store_other-q-requires c = let a = c.args in let w = c.requires in let r = c.saturating_sub-rest.ensures in let l = c.loop.invariant in (omega arith, omega (arith, l.0), omega (arith, l.0), omega arith, omega (arith, l.1), omega (arith, l.2), w.5, w.6)

pub loop-preserved : goal.loop-preserved
loop-preserved c =
    let l = c.loop in
    let a = c.args in
    let w = c.requires in
    let g = c.saturating_sub-rest.ensures in
    let d = c.store_other-q.ensures in
    let z = store_other_size a.g (ext_in a.kinds.now a.first) w.6 (a.v + c.saturating_sub-rest.result) (l.left - c.saturating_sub-rest.result) (omega arith) in
    let one : a.m - (l.counter + 1) ≡ a.m - l.counter - 1 = omega arith in (
      omega (arith, l.invariant.0),
      omega (arith, d.place, w.6.few, l.invariant.1),
      omega (arith, d.drawn, w.6.few, l.invariant.2),
      λ o r x. l.invariant.3 o r (rw (next_other a.g (ext_in a.kinds.now a.first) a.each w.5 (a.m - l.counter) a.v l.left (omega arith), ← g, ← one) (◌⨟◌ {t = store_other a.g (ext_in a.kinds.now a.first) (a.v + c.saturating_sub-rest.result) (l.left - c.saturating_sub-rest.result)} d x)),
    )

pub returns : goal.returns
returns c = let l = c.loop in let n : c.args.m - l.counter ≡ 0 = omega arith in l.invariant.3 _ _ (rw n emits_nop)
