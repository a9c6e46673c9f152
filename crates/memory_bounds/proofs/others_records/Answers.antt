use Prim.Native.Nat.{ℕ, ◌+◌, ◌-◌}
use mathlib.Core.Path.{◌≡◌, ap}
use native.Mathlib.Omega.{arith}
use Rattle.trees.specs.Tree.{size}
use Rattle.memory.specs.Objects.{store_others}
use Rattle.memory_bounds.specs.Bounds.{linked}
use Rattle.memory_bounds.proofs.Linked.{block_more}
use Rattle.memory_bounds.proofs.others_records.Goals as goal

pub overflow_sub-each : goal.overflow_sub-each
overflow_sub-each c = omega (arith, c.requires.2.some)

pub loop-init : goal.loop-init
loop-init c = let e : c.args.m - 0 ≡ c.args.m = omega arith in (omega arith, omega arith, rw e (omega arith))

pub values_records-values-requires : goal.values_records-values-requires
values_records-values-requires c = (omega (arith, c.saturating_sub-rest.ensures), omega (arith, c.requires.2.few), omega (arith, c.saturating_sub-rest.ensures, c.loop.invariant.0, c.requires.1))

pub loop-preserved : goal.loop-preserved
loop-preserved c =
    let a = c.args in
    let l = c.loop in
    let values = c.values_records-values.ensures in
    let link = c.word_records-link.ensures in
    let pointer = c.word_records-pointer.ensures in
    let one : a.m - (l.counter + 1) ≡ a.m - l.counter - 1 = omega arith in
    let next =
    block_more a.g (a.m - l.counter) a.v l.left c.requires.2.some (omega arith) c.saturating_sub-rest.ensures link.0 values.0 pointer.0 in
    (omega (arith, c.saturating_sub-rest.ensures), omega (arith, c.requires.2.few, values.1, link.1, pointer.1), rw one (omega (arith, next, l.invariant.2)))

pub returns : goal.returns
returns c =
    let a = c.args in
    let l = c.loop in
    let none : a.m - l.counter ≡ 0 = omega arith in
    (omega (arith, l.invariant.2, ap (λ (x : ℕ). size (store_others a.g linked x a.v l.left)) none), omega (arith, l.invariant.1))
