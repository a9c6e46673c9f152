use mathlib.Core.Path.{refl}
use native.Mathlib.Omega.{arith}
use Rattle.operations.specs.Operations.{operation_records}
use Rattle.operations.proofs.Answering.{not_written, wrote}
use Rattle.operations.proofs.operation.operate_sized.Goals as goal

pub emit_operation-need-requires : goal.emit_operation-need-requires
emit_operation-need-requires c =
    let w = c.requires in
    (omega arith, w.0, w.1)

pub returns-in_err-written : goal.returns-in_err-written
returns-in_err-written c =
    let a = c.args in
    not_written (operation_records a.g a.operation) c.emit_operation-need.ensures refl refl a.out.now c.grant.ensures c.in_err-written.was c.from_residual.ensures.1

pub emit_operation-requires : goal.emit_operation-requires
emit_operation-requires c =
    let w = c.requires in
    (omega arith, w.0, w.1)

pub returns : goal.returns
returns c =
    let a = c.args in
    wrote (operation_records a.g a.operation) c.emit_operation-need.ensures refl refl a.out.now c.grant.ensures c.in_ok-written.was c.emit_operation.ensures refl
