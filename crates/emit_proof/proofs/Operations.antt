-- What the operations of code.rs write is read back: at most ten well-formed records each.
use Rattle.std.specs.Prelude.{Err}
use Prim.Native.Nat.{ℕ, ◌^◌, ◌<◌}
use mathlib.Core.Path.{◌≡◌, refl}
use mathlib.Core.Bool.{true, ◌&&◌}
use mathlib.Core.List.{[], ◌∷◌}
use native.Mathlib.Omega.{arith}
use Rattle.records.specs.declared.code.Code.{Code}
use Rattle.records.specs.Instructions.{label_held}
use Rattle.records.specs.ReadBack.{WellFormedCode}
use Rattle.records.proofs.Conditions.{and_right, chosen}
use Rattle.emit.specs.declared.answer.Refusal.TheVariants.{Operand}
use Rattle.emit.specs.Answers.{accepted}
use Rattle.layout.specs.declared.config.Shape.{Shape}
use Rattle.layout.specs.Config.{Supported}
use Rattle.layout.specs.Positions.{operand_ok}
use Rattle.code.specs.Code.{jump_if, compare_words, compare_immediate, arithmetic, load_immediate, load_label, mov_tree}
use Rattle.code.proofs.Sizes.{plain_arithmetic, plain_compare, plain_compare_immediate, plain_load_immediate, plain_load_label, plain_mov}
use Rattle.operations.specs.declared.operation.Operation.{Operation}
use Rattle.operations.specs.declared.operation.Operation.TheVariants.{Label, Jump, JumpLabel, JumpLabelFixed, JumpLabelIf, JumpLabelIfZero, LoadImmediate, LoadLabel, AddAndJump, Arithmetic, Mov, Compare, CompareImmediate}
use Rattle.operations.specs.Operations.{operation_records, operands_allowed, operation_answer}
use Rattle.order_formed_proof.proofs.Codes.{Held, lab, jmp, jmpl, jmpln, jump_if_lem, addi, movl}
use Rattle.order_formed_proof.proofs.Choices.{offset_fits, zero_fits, stack, temp}
use Rattle.order_formed_proof.proofs.Operations.{formed_arithmetic, formed_immediate, formed_moved, formed_compare, formed_compare_immediate, formed_load_label}
use Rattle.emit_proof.specs.Claims.{Readable, OperationFits}
use Rattle.emit_proof.proofs.Lists.{readable, Short, short_tree, short_then, on_operand}

held : {l : ℕ} → l < 2 ^ 32 → label_held l ≡ true → Held l
held h e = record { fits = h; ok = e }

single : {c : Code} → WellFormedCode c → Short (c ∷ [])
single w = record { each = (w, tt); most = omega arith }

module _ (G : Shape) (sup : Supported G) where
  operation_short : (o : Operation) → OperationFits o → operands_allowed G o ≡ true → Short (operation_records G o)
  unfolding operation_records operands_allowed
  operation_short (Label l) f e = single (lab (held f e))
  operation_short (Jump w) f e =
      on_operand w (λ l. single (jmp l)) (λ l. record { each = (movl temp stack (offset_fits G sup w), (jmp temp, tt)); most = omega arith })
  operation_short (JumpLabel l) f e = single (jmpl (held f e))
  operation_short (JumpLabelFixed l) f e = single (jmpln (held f e))
  operation_short (JumpLabelIf k x y l) f e =
      let h = and_right (operand_ok G x && operand_ok G y) (label_held l) e in
      short_then (compare_words G x y) (jump_if k l) (formed_compare G sup x y) (plain_compare G x y) (omega arith) (jump_if_lem (held f h) k)
  operation_short (JumpLabelIfZero k w l) f e =
      let h = and_right (operand_ok G w) (label_held l) e in
      short_then (compare_immediate G w 0) (jump_if k l) (formed_compare_immediate G sup w zero_fits) (plain_compare_immediate G w 0) (omega arith) (jump_if_lem (held f h) k)
  operation_short (LoadImmediate w value) f e = short_tree (load_immediate G w value) (formed_immediate G sup w f) (plain_load_immediate G w value) (omega arith)
  operation_short (LoadLabel w l) f e =
      let h = and_right (operand_ok G w) (label_held l) e in
      short_tree (load_label G w l) (formed_load_label G sup w (held f h)) (plain_load_label G w l) (omega arith)
  operation_short (AddAndJump w value) f e =
      on_operand w (λ l. record { each = (addi l f, (jmp l, tt)); most = omega arith })
      (λ l. record { each = (movl temp stack (offset_fits G sup w), (addi temp f, (jmp temp, tt))); most = omega arith })
  operation_short (Arithmetic o w x y) f e = short_tree (arithmetic G o w x y) (formed_arithmetic G sup o w x y) (plain_arithmetic G o w x y) (omega arith)
  operation_short (Mov w x) f e = short_tree (mov_tree G w x) (formed_moved G sup w x) (plain_mov G w x) (omega arith)
  operation_short (Compare x y) f e = short_tree (compare_words G x y) (formed_compare G sup x y) (plain_compare G x y) (omega arith)
  operation_short (CompareImmediate w value) f e =
      short_tree (compare_immediate G w value) (formed_compare_immediate G sup w f) (plain_compare_immediate G w value) (omega arith)

  pub operation_readable : (o : Operation) → OperationFits o → operands_allowed G o ≡ true → Readable (operation_records G o)
  operation_readable o f e =
      let s = operation_short o f e in
      readable (operation_records G o) s.each (omega (arith, s.most))

  pub operation_reads : (o : Operation) (room : ℕ) → OperationFits o → accepted (operation_answer G room o) ≡ true → Readable (operation_records G o)
  operation_reads o room f e = operation_readable o f (chosen accepted (operands_allowed G o) _ (Err Operand) refl e).0
