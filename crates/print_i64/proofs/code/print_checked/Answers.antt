use Rattle.std.specs.Prelude.{Ok}
use mathlib.Core.Path.{refl, ap}
use native.Mathlib.Omega.{arith}
use lib.ListN.{length}
use Rattle.records.specs.Contexts.{ext_at}
use Rattle.emit.proofs.Wrote.{refused, ample_if, at_once}
use Rattle.layout.proofs.Placing.{operand_range}
use Rattle.print_i64.specs.Print.{print_i64}
use Rattle.print_i64.proofs.Sizes.{print_size}
use Rattle.print_i64.proofs.Printing.{unlabelled}
use Rattle.print_i64.proofs.code.print_checked.Goals as goal

pub returns-then-not-operand_ok : goal.returns-then-not-operand_ok
returns-then-not-operand_ok c = rw (← c.operand_ok.ensures, c.if-not-operand_ok.true) (refused refl refl refl)

pub emit_print_i64-q-requires : goal.emit_print_i64-q-requires
emit_print_i64-q-requires c =
    let w = c.requires in
    (omega arith, (operand_range _ _ c.operand_ok.ensures c.if-not-operand_ok.false).1, w.0, w.1, w.2)

pub returns-then-ample : goal.returns-then-ample
returns-then-ample c =
    let a = c.args in
    let t = print_i64 a.g a.newline a.w (ext_at a.context.now) a.n in
    let z = print_size a.g a.newline a.w (ext_at a.context.now) a.n in
    let fit = ample_if _ _ _ _ c.ample.ensures c.if-ample.true in
    rw (← c.operand_ok.ensures, c.if-not-operand_ok.false)
    (unlabelled t (length a.out.now) z.0
    (at_once t 0 c.emit_print_i64-q.ensures refl refl (ap (λ w. Ok w) c.up_to.ensures) (omega (arith, z.0)) (omega (arith, fit.1, z.1))))

pub print_sized-requires : goal.print_sized-requires
print_sized-requires c =
    let w = c.requires in
    ((operand_range _ _ c.operand_ok.ensures c.if-not-operand_ok.false).1, w.0, w.1, w.2)

pub returns : goal.returns
returns c = rw (← c.operand_ok.ensures, c.if-not-operand_ok.false) c.print_sized.ensures
