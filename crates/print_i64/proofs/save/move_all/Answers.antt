use borrow.Author.Rules.{rules}
use mathlib.Core.Path.{refl}
use native.Mathlib.Nat.{le_antisymm}
use native.Mathlib.Omega.{arith}
use Rattle.emit.proofs.Laws.{length_fields}
use Rattle.print_i64.specs.Registers.{members}
use Rattle.print_i64.specs.Saved.{move_all, move_one}
use Rattle.print_i64.proofs.Sets.{members_next, members_most}
use Rattle.print_i64.proofs.Saving.{none_moved, joined, move_next, move_most}
use Rattle.print_i64.proofs.save.move_all.Goals as goal

pub loop-r-init : goal.loop-r-init
loop-r-init c =
    let a = c.args in
    let none = none_moved a.back a.first a.used a.set c.requires.2 in
    (omega arith, refl, none.0, none.1)

pub move_one-q-requires : goal.move_one-q-requires
move_one-q-requires c =
    let a = c.args in
    let l = c.loop-r in
    let rs = members l.r a.set in
    (omega (arith, l.invariant.3.place, length_fields (move_all a.back a.first a.used rs), move_most a.back a.first a.used rs, members_most l.r a.set), search rules, omega arith)

pub overflow_add-done : goal.overflow_add-done
overflow_add-done c = record { fits = omega (arith, c.loop-r.invariant.2, members_most c.loop-r.r c.args.set) }

pub loop-r-preserved : goal.loop-r-preserved
loop-r-preserved c =
    let a = c.args in
    let l = c.loop-r in
    (omega arith, search rules, omega (arith, l.invariant.2, members_next l.r a.set), rw (move_next a.back a.first a.used l.r a.set, ← l.invariant.2) (joined (move_all a.back a.first a.used (members l.r a.set)) (move_one a.back a.first a.used l.done l.r a.set) l.invariant.3 c.move_one-q.ensures))

pub returns : goal.returns
returns c =
    let l = c.loop-r in
    rw (← c.requires.2.1, ← (le_antisymm l.invariant.0 c.loop-r-test.false)) l.invariant.3
