-- What each operation writes and answers. From the scope, 'Causes and numbers': 3 for an operand, a label or a frame, then 10 for the room.
use Rattle.std.specs.Prelude.{ℕ, ◌*◌, Bool, ◌&&◌, cond, List, [], ◌∷◌, length, Err}
use Rattle.records.specs.declared.code.Code.{Code}
use Rattle.records.specs.declared.code.Code.TheVariants.{JMPL, JMPLN, LAB}
use Rattle.records.specs.Instructions.{label_held}
use Rattle.trees.specs.Tree.{flat}
use Rattle.emit.specs.declared.answer.Refusal.TheVariants as answer
use Rattle.emit.specs.Answers.{granted, Answers, Answer}
use Rattle.layout.specs.declared.config.Shape.{Shape}
use Rattle.layout.specs.Config.{in_frame}
use Rattle.layout.specs.Positions.{operand_ok}
use Rattle.operations.specs.declared.operation.Operation.{Operation}
use Rattle.operations.specs.declared.operation.Operation.TheVariants.{Label, Jump, JumpLabel, JumpLabelFixed, JumpLabelIf, JumpLabelIfZero, LoadImmediate, LoadLabel, AddAndJump, Arithmetic, Mov, Compare, CompareImmediate}
use Rattle.code.specs.Code.{compare_words, compare_immediate, load_immediate, load_label, mov_tree, arithmetic, jump_to, add_and_jump, jump_if_words, jump_if_zero}

module _ (g : Shape) where
  -- its records
  unfoldable pub operation_records : Operation → List Code
  operation_records (Label l) = LAB l ∷ []
  operation_records (Jump w) = jump_to g w
  operation_records (JumpLabel l) = JMPL l ∷ []
  operation_records (JumpLabelFixed l) = JMPLN l ∷ []
  operation_records (JumpLabelIf k x y l) = jump_if_words g k x y l
  operation_records (JumpLabelIfZero k w l) = jump_if_zero g k w l
  operation_records (LoadImmediate w value) = flat (load_immediate g w value) 0
  operation_records (LoadLabel w l) = flat (load_label g w l) 0
  operation_records (AddAndJump w value) = add_and_jump g w value
  operation_records (Arithmetic o w x y) = flat (arithmetic g o w x y) 0
  operation_records (Mov w x) = flat (mov_tree g w x) 0
  operation_records (Compare x y) = flat (compare_words g x y) 0
  operation_records (CompareImmediate w value) = flat (compare_immediate g w value) 0

  -- whether its operands are those that a caller may give, and its label one that a record may hold
  unfoldable pub operands_allowed : Operation → Bool
  operands_allowed (Label l) = label_held l
  operands_allowed (Jump w) = operand_ok g w
  operands_allowed (JumpLabel l) = label_held l
  operands_allowed (JumpLabelFixed l) = label_held l
  operands_allowed (JumpLabelIf k x y l) = (operand_ok g x && operand_ok g y) && label_held l
  operands_allowed (JumpLabelIfZero k w l) = operand_ok g w && label_held l
  operands_allowed (LoadImmediate w value) = operand_ok g w
  operands_allowed (LoadLabel w l) = operand_ok g w && label_held l
  operands_allowed (AddAndJump w value) = operand_ok g w
  operands_allowed (Arithmetic o w x y) = operand_ok g w && (operand_ok g x && operand_ok g y)
  operands_allowed (Mov w x) = operand_ok g w && operand_ok g x
  operands_allowed (Compare x y) = operand_ok g x && operand_ok g y
  operands_allowed (CompareImmediate w value) = operand_ok g w

  -- its answer for an output of so many bytes: no labels are drawn
  abbrev pub operation_answer : ℕ → Operation → Answer
  operation_answer room o = cond (operands_allowed o) (granted 0 room (24 * length (operation_records o)) 0) (Err answer.Operand)

-- its answer and its records in a frame of so many spills; another number than a frame has is 3, whatever the operation
abbrev pub operate_in : ℕ → ℕ → Operation → Answer
operate_in frame room o = in_frame frame (λ g. operation_answer g room o) (Err answer.Operand)

abbrev pub operation_records_in : ℕ → Operation → List Code
operation_records_in frame o = in_frame frame (λ g. operation_records g o) []

-- what an operation ensures of the output before and after, and of its answer
abbrev pub Operates : ℕ → List ℕ → List ℕ → Answer → Operation → Type 0
Operates frame s s' r o = Answers s s' r (operate_in frame (length s) o) (operation_records_in frame o)
