use mathlib.Core.Path.{sym, subst}
use native.Mathlib.Omega.{arith}
use lib.Count.{ones-le}
use Rattle.records.specs.Contexts.{ext_at}
use Rattle.emit.proofs.Laws.{◌⨟◌}
use Rattle.print_i64.specs.Registers.{members, CallerSaved}
use Rattle.print_i64.proofs.Sizes.{source_size, save_size}
use Rattle.print_i64.proofs.Sets.{members_most, saved_within}
use Rattle.print_i64.proofs.Printing.{printed}
use Rattle.print_i64.proofs.code.emit_print_i64.Goals as goal

pub overflow_cast-set : goal.overflow_cast-set
overflow_cast-set c = record { fits = omega (arith, ones-le 16 c.registers_to_save-set.result (omega arith)) }

pub save_caller_save_registers-q2-requires : goal.save_caller_save_registers-q2-requires
save_caller_save_registers-q2-requires c =
    let a = c.args in
    let used = c.backup_registers_used-used.ensures in
    let first = c.first_backup_register-first.ensures in
    let set = c.registers_to_save-set.ensures in
    let saved = subst CallerSaved (sym set) (saved_within (ext_at a.context.now) a.n) in
    (omega (arith, c.source_to_temp-q1.ensures.place, source_size a.g a.w), omega (arith, used, first), omega (arith, used), saved)

pub call_print-q3-requires : goal.call_print-q3-requires
call_print-q3-requires c =
    let a = c.args in
    let set = c.registers_to_save-set.result in
    let rs = members 16 set in
    omega (arith, c.source_to_temp-q1.ensures.place, c.save_caller_save_registers-q2.ensures.place, source_size a.g a.w, save_size c.first_backup_register-first.result c.backup_registers_used-used.result rs, members_most 16 set)

pub restore_caller_save_registers-requires : goal.restore_caller_save_registers-requires
restore_caller_save_registers-requires c =
    let a = c.args in
    let used = c.backup_registers_used-used.ensures in
    let first = c.first_backup_register-first.ensures in
    let set = c.registers_to_save-set.result in
    let rs = members 16 set in
    let saved = subst CallerSaved (sym c.registers_to_save-set.ensures) (saved_within (ext_at a.context.now) a.n) in
    (omega (arith, c.source_to_temp-q1.ensures.place, c.save_caller_save_registers-q2.ensures.place, c.call_print-q3.ensures.place, source_size a.g a.w, save_size c.first_backup_register-first.result c.backup_registers_used-used.result rs, members_most 16 set), omega (arith, used, first), omega (arith, used), saved)

pub returns : goal.returns
returns c =
    let a = c.args in
    printed a.g a.newline a.w (ext_at a.context.now) a.n (omega arith) c.registers_to_save-set.ensures c.first_backup_register-first.ensures
    c.backup_registers_used-used.ensures (c.source_to_temp-q1.ensures ⨟ c.save_caller_save_registers-q2.ensures ⨟ c.call_print-q3.ensures ⨟ c.restore_caller_save_registers.ensures)
