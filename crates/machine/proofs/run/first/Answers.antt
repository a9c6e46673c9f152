use borrow.Author.Rules.{rules}
use mathlib.Core.Path.{refl, sym, ◌∙◌}
use native.Mathlib.Omega.{arith}
use Rattle.machine.proofs.Labels.{places_turn, places_end}
use Rattle.machine.proofs.run.first.Goals as goal

pub loop-i-init : goal.loop-i-init
loop-i-init c = (search rules, refl)

pub loop-i-preserved : goal.loop-i-preserved
loop-i-preserved c =
    let l = c.loop-i in
    let a = c.args in
    (omega arith, sym (places_turn a.label a.s.now a.n l.i c.requires.0 (omega arith) (sym c.if-is_label.false ∙ c.is_label.ensures)) ∙ l.invariant.1)

pub returns-then-is_label : goal.returns-then-is_label
returns-then-is_label c =
    let l = c.loop-i in
    let a = c.args in
    (omega arith, sym l.invariant.1 ∙ places_turn a.label a.s.now a.n l.i c.requires.0 (omega arith) (sym c.if-is_label.true ∙ c.is_label.ensures))

pub returns : goal.returns
returns c = let l = c.loop-i in let a = c.args in sym l.invariant.1 ∙ places_end a.label a.s.now a.n l.i (omega arith)
