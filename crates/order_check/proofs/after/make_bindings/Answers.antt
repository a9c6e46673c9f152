use borrow.Author.Rules.{rules}
use mathlib.Core.Path.{refl}
use native.Mathlib.Omega.{arith}
use Rattle.order_check.proofs.Making.{none_yet, next_made, all_made}
use Rattle.order_check.proofs.after.make_bindings.Goals as goal

pub loop-i-init : goal.loop-i-init
loop-i-init c = let a = c.args in (omega arith, refl, none_yet _ a.at a.kind a.place a.n _ refl)

pub loop-i-preserved : goal.loop-i-preserved
loop-i-preserved c =
    let l = c.loop-i in
    let a = c.args in
    (omega arith, search rules, next_made _ a.at a.kind a.place a.n l.i _ (omega arith) (omega arith) c.write_binding.ensures l.invariant.2)

pub returns : goal.returns
returns c = let l = c.loop-i in let a = c.args in all_made _ a.at a.kind a.place a.n l.i (omega arith) l.invariant.2
