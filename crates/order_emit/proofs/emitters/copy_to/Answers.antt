use borrow.Author.Rules.{rules}
use Prim.Native.Nat.{◌+◌}
use mathlib.Core.Path.{refl}
use native.Mathlib.Omega.{arith}
use Rattle.emit.proofs.Laws.{◌⨟◌}
use Rattle.order_emit.proofs.Copying.{none_yet, next_copy, all_copied}
use Rattle.order_emit.proofs.Extent.{variable_extent}
use Rattle.order_emit.proofs.emitters.copy_to.Goals as goal

pub loop-i-init : goal.loop-i-init
loop-i-init c =
    let w = c.requires in
    let a = c.args in
    (omega arith, refl, omega (arith, w.2), λ o r d. rw (none_yet a.g a.ext a.a a.v a.n) at d)

pub copy_variable-q-requires : goal.copy_variable-q-requires
copy_variable-q-requires c = let w = c.requires in let i = c.loop-i.invariant in (w.0, omega (arith, w.1), omega (arith, i.2), w.3)

pub loop-i-preserved : goal.loop-i-preserved
loop-i-preserved c =
    let l = c.loop-i in
    let a = c.args in
    let d = c.copy_variable-q.ensures in
    let z = variable_extent a.g a.ext a.a (a.v + l.i) in
    (omega arith, search rules, omega (arith, d.place, z.1, l.invariant.2), λ o r x. l.invariant.3 o r (rw (next_copy a.g a.ext a.a a.v a.n l.i (omega arith)) (d ⨟ x)))

pub returns : goal.returns
returns c = let l = c.loop-i in let a = c.args in l.invariant.3 _ _ (all_copied a.g a.ext a.a a.v a.n l.i (omega arith))
