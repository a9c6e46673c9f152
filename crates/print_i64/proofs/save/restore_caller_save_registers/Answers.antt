use native.Mathlib.Omega.{arith}
use mathlib.Core.Bool.{true}
use Prim.Native.Nat.{◌-◌}
use mathlib.Core.Path.{refl}
use lib.Count.{ones, ones-le}
use Rattle.records.specs.declared.code.Code.TheVariants.{ADDI}
use Rattle.layout.specs.Config.{STACK}
use Rattle.emit.proofs.Laws.{length_fields}
use Rattle.print_i64.specs.Registers.{members}
use Rattle.print_i64.specs.Saved.{move_all}
use Rattle.print_i64.proofs.Sizes.{even_size}
use Rattle.print_i64.proofs.Sets.{ones_members, members_most}
use Rattle.print_i64.proofs.Saving.{move_most, restored}
use Rattle.print_i64.proofs.save.restore_caller_save_registers.Goals as goal

pub overflow_cast-count : goal.overflow_cast-count
overflow_cast-count c = record { fits = omega (arith, ones-le 16 c.args.set (omega arith)) }

pub free_alignment-s-requires : goal.free_alignment-s-requires
free_alignment-s-requires c = let a = c.args in let d = c.move_all-q.ensures in let l = move_all true a.first a.used (members 16 a.set) in omega (arith, d.place, length_fields l, move_most true a.first a.used (members 16 a.set), members_most 16 a.set)

pub pop_all-requires : goal.pop_all-requires
pop_all-requires c = let a = c.args in let d = c.move_all-q.ensures in let e = c.free_alignment-s.ensures in let l = move_all true a.first a.used (members 16 a.set) in (omega (arith, d.place, e.place, even_size (ones a.set - a.used) (ADDI STACK 8) refl, length_fields l, move_most true a.first a.used (members 16 a.set), members_most 16 a.set), ones_members a.set (omega arith), c.requires.3)

pub returns : goal.returns
returns c = let a = c.args in restored a.first a.used a.set (omega arith) c.move_all-q.ensures c.free_alignment-s.ensures c.pop_all.ensures
