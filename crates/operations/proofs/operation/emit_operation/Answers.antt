use borrow.Author.Rules.{rules}
use Rattle.records.proofs.Conditions.{and_left}
use Rattle.operations.specs.Operations.{operation_records, operands_allowed}
use Rattle.code.proofs.Sizes.{plain_arithmetic, plain_compare, plain_compare_immediate, plain_load_immediate, plain_load_label, plain_mov}
use Rattle.code.proofs.Listed.{plain_list}
use Rattle.operations.proofs.Ranges.{one_below, two_below, below_and}
use native.Mathlib.Omega.{arith}
use Rattle.operations.proofs.operation.emit_operation.Goals as goal

pub emit-requires : goal.emit-requires
unfolding operation_records operands_allowed
emit-requires c = search rules

pub emit_jump-requires : goal.emit_jump-requires
unfolding operation_records operands_allowed
emit_jump-requires c = (omega arith, one_below c.args.g (rw c.in-Jump.is at c.requires.1), c.requires.2)

pub emit-requires-in-JumpLabel : goal.emit-requires-in-JumpLabel
unfolding operation_records operands_allowed
emit-requires-in-JumpLabel c = search rules

pub emit-requires-in-JumpLabelFixed : goal.emit-requires-in-JumpLabelFixed
unfolding operation_records operands_allowed
emit-requires-in-JumpLabelFixed c = search rules

pub emit_jump_label_if-requires : goal.emit_jump_label_if-requires
unfolding operation_records operands_allowed
emit_jump_label_if-requires c = let b = two_below c.args.g (and_left _ _ (rw c.in-JumpLabelIf.is at c.requires.1)) in (omega arith, b.0, b.1, c.requires.2)

pub emit_jump_label_if_zero-requires : goal.emit_jump_label_if_zero-requires
unfolding operation_records operands_allowed
emit_jump_label_if_zero-requires c = (omega arith, (below_and c.args.g (rw c.in-JumpLabelIfZero.is at c.requires.1)).0, c.requires.2)

pub emit_load_immediate-requires : goal.emit_load_immediate-requires
unfolding operation_records operands_allowed
emit_load_immediate-requires c = (omega arith, one_below c.args.g (rw c.in-LoadImmediate.is at c.requires.1), c.requires.2)

pub emit_load_label-requires : goal.emit_load_label-requires
unfolding operation_records operands_allowed
emit_load_label-requires c = (omega arith, (below_and c.args.g (rw c.in-LoadLabel.is at c.requires.1)).0, c.requires.2)

pub emit_add_and_jump-requires : goal.emit_add_and_jump-requires
unfolding operation_records operands_allowed
emit_add_and_jump-requires c = (omega arith, one_below c.args.g (rw c.in-AddAndJump.is at c.requires.1), c.requires.2)

pub emit_arithmetic-requires : goal.emit_arithmetic-requires
unfolding operation_records operands_allowed
emit_arithmetic-requires c = let a = below_and c.args.g (rw c.in-Arithmetic.is at c.requires.1) in let b = two_below c.args.g a.1 in (omega arith, a.0, b.0, b.1, c.requires.2)

pub emit_mov-requires : goal.emit_mov-requires
unfolding operation_records operands_allowed
emit_mov-requires c = let b = two_below c.args.g (rw c.in-Mov.is at c.requires.1) in (omega arith, b.0, b.1, c.requires.2)

pub emit_compare-requires : goal.emit_compare-requires
unfolding operation_records operands_allowed
emit_compare-requires c = let b = two_below c.args.g (rw c.in-Compare.is at c.requires.1) in (omega arith, b.0, b.1, c.requires.2)

pub emit_compare_immediate-requires : goal.emit_compare_immediate-requires
unfolding operation_records operands_allowed
emit_compare_immediate-requires c = (omega arith, one_below c.args.g (rw c.in-CompareImmediate.is at c.requires.1), c.requires.2)

pub returns-in-Label : goal.returns-in-Label
unfolding operation_records operands_allowed
returns-in-Label c = rw c.in-Label.is c.emit.ensures

pub returns-in-Jump : goal.returns-in-Jump
unfolding operation_records operands_allowed
returns-in-Jump c = rw c.in-Jump.is c.emit_jump.ensures

pub returns-in-JumpLabel : goal.returns-in-JumpLabel
unfolding operation_records operands_allowed
returns-in-JumpLabel c = rw c.in-JumpLabel.is c.emit-in-JumpLabel.ensures

pub returns-in-JumpLabelFixed : goal.returns-in-JumpLabelFixed
unfolding operation_records operands_allowed
returns-in-JumpLabelFixed c = rw c.in-JumpLabelFixed.is c.emit-in-JumpLabelFixed.ensures

pub returns-in-JumpLabelIf : goal.returns-in-JumpLabelIf
unfolding operation_records operands_allowed
returns-in-JumpLabelIf c = rw c.in-JumpLabelIf.is c.emit_jump_label_if.ensures

pub returns-in-JumpLabelIfZero : goal.returns-in-JumpLabelIfZero
unfolding operation_records operands_allowed
returns-in-JumpLabelIfZero c = rw c.in-JumpLabelIfZero.is c.emit_jump_label_if_zero.ensures

pub returns-in-LoadImmediate : goal.returns-in-LoadImmediate
unfolding operation_records operands_allowed
returns-in-LoadImmediate c = rw c.in-LoadImmediate.is (plain_list (plain_load_immediate c.args.g c.in-LoadImmediate.w c.in-LoadImmediate.value) c.emit_load_immediate.ensures)

pub returns-in-LoadLabel : goal.returns-in-LoadLabel
unfolding operation_records operands_allowed
returns-in-LoadLabel c = rw c.in-LoadLabel.is (plain_list (plain_load_label c.args.g c.in-LoadLabel.w c.in-LoadLabel.l) c.emit_load_label.ensures)

pub returns-in-AddAndJump : goal.returns-in-AddAndJump
unfolding operation_records operands_allowed
returns-in-AddAndJump c = rw c.in-AddAndJump.is c.emit_add_and_jump.ensures

pub returns-in-Arithmetic : goal.returns-in-Arithmetic
unfolding operation_records operands_allowed
returns-in-Arithmetic c = rw c.in-Arithmetic.is (plain_list (plain_arithmetic c.args.g c.in-Arithmetic.o c.in-Arithmetic.w c.in-Arithmetic.x c.in-Arithmetic.y) c.emit_arithmetic.ensures)

pub returns-in-Mov : goal.returns-in-Mov
unfolding operation_records operands_allowed
returns-in-Mov c = rw c.in-Mov.is (plain_list (plain_mov c.args.g c.in-Mov.w c.in-Mov.x) c.emit_mov.ensures)

pub returns-in-Compare : goal.returns-in-Compare
unfolding operation_records operands_allowed
returns-in-Compare c = rw c.in-Compare.is (plain_list (plain_compare c.args.g c.in-Compare.x c.in-Compare.y) c.emit_compare.ensures)

pub returns-in-CompareImmediate : goal.returns-in-CompareImmediate
unfolding operation_records operands_allowed
returns-in-CompareImmediate c = rw c.in-CompareImmediate.is (plain_list (plain_compare_immediate c.args.g c.in-CompareImmediate.w c.in-CompareImmediate.value) c.emit_compare_immediate.ensures)
