use Prim.Native.Nat.{ℕ, ◌+◌, ◌-◌}
use mathlib.Core.Path.{◌≡◌}
use native.Mathlib.Omega.{arith}
use Rattle.emit.proofs.Laws.{◌⨟◌, emits_nop}
use Rattle.memory.specs.Objects.{ext_in, load_value}
use Rattle.memory.proofs.Sizes.{load_value_size}
use Rattle.memory.proofs.Unfolded.{next_loaded}
use Rattle.memory_load_blocks.proofs.load_values.Goals as goal

pub loop-i-init : goal.loop-i-init
loop-i-init c =
    let w = c.requires in
    let e : c.args.free - c.args.k + c.args.k ≡ c.args.free = omega arith in
    (w.5, w.6, rw e (λ o s d. d))

pub load_value-q-requires : goal.load_value-q-requires
load_value-q-requires c =
    let w = c.requires in
    let l = c.loop-i.invariant in
    (omega arith, omega arith, omega arith, omega arith, omega (arith, l.0), omega (arith, l.1), w.7)

pub loop-i-preserved : goal.loop-i-preserved
loop-i-preserved c =
    let l = c.loop-i in
    let a = c.args in
    let d = c.load_value-q.ensures in
    let unused : ℕ = a.free - a.k in
    let z = load_value_size a.g (ext_in a.kinds.now a.first) a.shared (a.v + (l.i - 1)) (unused + (l.i - 1)) a.r in
    let e : unused + l.i - 1 ≡ unused + (l.i - 1) = omega arith in
    let n = rw e at (next_loaded a.g (ext_in a.kinds.now a.first) a.shared a.v l.i (unused + l.i) a.r (omega arith)) in (
      omega (arith, l.invariant.0, d.place),
      omega (arith, l.invariant.1, d.drawn),
      λ o s x. l.invariant.2 o s (rw n (◌⨟◌ {t = load_value a.g (ext_in a.kinds.now a.first) a.shared (a.v + (l.i - 1)) (unused + (l.i - 1)) a.r} d x)),
    )

pub returns : goal.returns
returns c = let l = c.loop-i in let n : l.i ≡ 0 = omega arith in l.invariant.2 _ _ (rw n emits_nop)
