use Prim.Native.Nat.{ℕ, ◌+◌, ◌-◌}
use mathlib.Core.Path.{◌≡◌}
use native.Mathlib.Nat.{add-zero}
use native.Mathlib.Omega.{arith}
use Rattle.emit.proofs.Laws.{◌⨟◌}
use Rattle.memory.specs.Objects.{ext_in, store_value}
use Rattle.memory.proofs.Sizes.{store_value_size}
use Rattle.memory.proofs.Unfolded.{next_value}
use Rattle.memory_store.proofs.store.store_values.Goals as goal

pub loop-i-init : goal.loop-i-init
loop-i-init c = let e : c.args.free - c.args.k + c.args.k ≡ c.args.free = omega arith in (c.requires.5, rw e (λ o r d. d))

pub store_value-q-requires : goal.store_value-q-requires
store_value-q-requires c = let a = c.requires in let l = c.loop-i.invariant.0 in (omega arith, omega arith, omega arith, omega arith, omega arith, a.6)

pub loop-i-preserved : goal.loop-i-preserved
loop-i-preserved c =
    let l = c.loop-i in
    let a = c.args in
    let d = c.store_value-q.ensures in
    let zeros : ℕ = a.free - a.k in
    let z = store_value_size a.g (ext_in a.kinds.now a.first) (a.v + (l.i - 1)) (zeros + (l.i - 1)) in
    let e : zeros + l.i - 1 ≡ zeros + (l.i - 1) = omega arith in
    let n = rw e at (next_value a.g (ext_in a.kinds.now a.first) a.v l.i (zeros + l.i) (omega arith)) in
    (omega (arith, d.place), λ o r x. l.invariant.1 o r (rw n (◌⨟◌ {t = store_value a.g (ext_in a.kinds.now a.first) (a.v + (l.i - 1)) (zeros + (l.i - 1))} d x)))

pub returns : goal.returns
returns c =
    let l = c.loop-i in
    let n : l.i ≡ 0 = omega arith in
    l.invariant.1 _ _ (rw (n, add-zero) c.store_zeros.ensures)
