use mathlib.Core.Path.{refl}
use native.Mathlib.Omega.{arith}
use lib.ListN.{length}
use Rattle.records.specs.Contexts.{ext_at}
use Rattle.emit.proofs.Wrote.{not_written, wrote}
use Rattle.print_i64.specs.Print.{print_i64}
use Rattle.print_i64.proofs.Sizes.{print_size}
use Rattle.print_i64.proofs.Printing.{unlabelled}
use Rattle.print_i64.proofs.code.print_sized.Goals as goal

pub emit_print_i64-need-requires : goal.emit_print_i64-need-requires
emit_print_i64-need-requires c =
    let w = c.requires in
    (omega arith, w.0, w.1, w.2, w.3)

pub grant-requires : goal.grant-requires
grant-requires c =
    let a = c.args in
    omega (arith, c.emit_print_i64-need.ensures.drawn, print_size a.g a.newline a.w (ext_at a.context.now) a.n)

pub returns-in_err-written : goal.returns-in_err-written
returns-in_err-written c =
    let a = c.args in
    let t = print_i64 a.g a.newline a.w (ext_at a.context.now) a.n in
    unlabelled t (length a.out.now) (print_size a.g a.newline a.w (ext_at a.context.now) a.n).0
    (not_written t 0 c.emit_print_i64-need.ensures refl refl a.out.now c.grant.ensures c.in_err-written.was c.from_residual.ensures.1)

pub emit_print_i64-requires : goal.emit_print_i64-requires
emit_print_i64-requires c =
    let w = c.requires in
    (omega arith, w.0, w.1, w.2, w.3)

pub returns : goal.returns
returns c =
    let a = c.args in
    let t = print_i64 a.g a.newline a.w (ext_at a.context.now) a.n in
    unlabelled t (length a.out.now) (print_size a.g a.newline a.w (ext_at a.context.now) a.n).0
    (wrote t 0 c.emit_print_i64-need.ensures refl refl a.out.now c.grant.ensures c.in_ok-written.was c.emit_print_i64.ensures refl refl)
