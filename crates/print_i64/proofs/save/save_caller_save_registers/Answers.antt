use native.Mathlib.Omega.{arith}
use mathlib.Core.Bool.{false}
use lib.Count.{ones-le}
use Rattle.emit.proofs.Laws.{length_fields}
use Rattle.print_i64.specs.Registers.{members}
use Rattle.print_i64.specs.Saved.{move_all}
use Rattle.print_i64.proofs.Sets.{members_most}
use Rattle.print_i64.proofs.Saving.{move_most, saved_even, saved_odd}
use Rattle.print_i64.proofs.save.save_caller_save_registers.Goals as goal

pub overflow_cast-count : goal.overflow_cast-count
overflow_cast-count c = record { fits = omega (arith, ones-le 16 c.args.set (omega arith)) }

pub emit-requires : goal.emit-requires
emit-requires c = let a = c.args in let d = c.move_all-q.ensures in let l = move_all false a.first a.used (members 16 a.set) in omega (arith, d.place, length_fields l, move_most false a.first a.used (members 16 a.set), members_most 16 a.set)

pub returns-then-count-used-eq0 : goal.returns-then-count-used-eq0
returns-then-count-used-eq0 c = let a = c.args in saved_even a.first a.used a.set (omega arith) c.move_all-q.ensures c.if-count-used-eq0.true c.emit.ensures

pub returns : goal.returns
returns c = let a = c.args in saved_odd a.first a.used a.set (omega arith) c.move_all-q.ensures c.if-count-used-eq0.false
