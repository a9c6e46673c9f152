use Rattle.std.specs.Prelude.{Ok}
use mathlib.Core.Path.{refl, sym, ap, ◌∙◌}
use native.Mathlib.Omega.{arith}
use Rattle.emit.proofs.Wrote.{refused, ample_if, at_once_listed}
use Rattle.operations.specs.Operations.{operation_records}
use Rattle.operations.proofs.Extent.{nine_at_most}
use Rattle.operations.proofs.operation.operate_in.Goals as goal

pub returns-then-not-operands_ok : goal.returns-then-not-operands_ok
returns-then-not-operands_ok c = rw (← c.operands_ok.ensures, c.if-not-operands_ok.true) (refused refl refl refl)

pub emit_operation-q-requires : goal.emit_operation-q-requires
emit_operation-q-requires c = (omega arith, sym c.operands_ok.ensures ∙ c.if-not-operands_ok.false, c.requires)

pub returns-then-ample : goal.returns-then-ample
returns-then-ample c =
    let a = c.args in
    let fit = ample_if _ _ _ _ c.ample.ensures c.if-ample.true in
    rw (← c.operands_ok.ensures, c.if-not-operands_ok.false)
    (at_once_listed (operation_records a.g a.operation) 0 c.emit_operation-q.ensures refl refl (ap (λ w. Ok w) c.up_to.ensures) (omega arith)
    (omega (arith, fit.1, nine_at_most a.g a.operation)))

pub operate_sized-requires : goal.operate_sized-requires
operate_sized-requires c = (sym c.operands_ok.ensures ∙ c.if-not-operands_ok.false, c.requires)

pub returns : goal.returns
returns c = rw (← c.operands_ok.ensures, c.if-not-operands_ok.false) c.operate_sized.ensures
