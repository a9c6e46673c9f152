-- The operations by number, from 1 on, and their answers told as numbers.
use Rattle.std.specs.Prelude.{ℕ, cond, List, [], ◌∷◌, eqb, get_or, Err}
use Rattle.records.specs.declared.code.Code.{Code}
use Rattle.records.specs.declared.order.Calculation.TheVariants.{Add, Sub, Mul, Div, Rem}
use Rattle.code.specs.declared.emitters.Condition.TheVariants.{Equal, NotEqual, Less, LessOrEqual, Greater, GreaterOrEqual}
use Rattle.emit.specs.declared.answer.Refusal.TheVariants.{Operand, Edition}
use Rattle.emit.specs.Answers.{cause_of, Answer}
use Rattle.layout.specs.Config.{in_edition}
use Rattle.operations.specs.declared.operation.Operation.{Operation}
use Rattle.operations.specs.declared.operation.Operation.TheVariants.{Label, Jump, JumpLabel, JumpLabelFixed, JumpLabelIf, JumpLabelIfZero, LoadImmediate, LoadLabel, AddAndJump, Arithmetic, Mov, Compare, CompareImmediate}
use Rattle.memory.specs.Answered.{erase_in, erase_records_in, share_in, share_records_in, store_in, store_records_in}
use Rattle.memory.specs.LoadAnswered.{load_in, load_records_in}
use Rattle.port_numbers.specs.Numbers.{numbers_in}

-- an answer's number and value; accepted, its value is the number of records written
abbrev pub answer_numbers : Answer → List ℕ
answer_numbers r = numbers_in (cause_of r)

-- the counter after an answer, the third of its numbers: a refusal has none, and keeps it
abbrev pub counter_after : ℕ → Answer → ℕ
counter_after counter r = get_or (cause_of r) 2 counter

-- the operations of code.rs in sequence: operands x, y, z, a label and an immediate
abbrev pub operations : ℕ → ℕ → ℕ → ℕ → ℕ → List Operation
operations x y z l value =
    Label l
    ∷ Jump x
    ∷ JumpLabel l
    ∷ JumpLabelFixed l
    ∷ JumpLabelIf Equal x y l
    ∷ JumpLabelIf NotEqual x y l
    ∷ JumpLabelIf Less x y l
    ∷ JumpLabelIf LessOrEqual x y l
    ∷ JumpLabelIf Greater x y l
    ∷ JumpLabelIf GreaterOrEqual x y l
    ∷ JumpLabelIfZero Equal x l
    ∷ JumpLabelIfZero NotEqual x l
    ∷ JumpLabelIfZero Less x l
    ∷ JumpLabelIfZero LessOrEqual x l
    ∷ JumpLabelIfZero Greater x l
    ∷ JumpLabelIfZero GreaterOrEqual x l
    ∷ LoadImmediate x value
    ∷ LoadLabel x l
    ∷ AddAndJump x value
    ∷ Arithmetic Add x y z
    ∷ Arithmetic Sub x y z
    ∷ Arithmetic Mul x y z
    ∷ Arithmetic Div x y z
    ∷ Arithmetic Rem x y z
    ∷ Mov x y
    ∷ Compare x y
    ∷ CompareImmediate x value
    ∷ []

-- the operation of a number from 1 on; any other number gives a label that no record may hold, which is refused with 3
unfoldable pub operation_numbered : ℕ → ℕ → ℕ → ℕ → ℕ → ℕ → Operation
operation_numbered number x y z l value = get_or (Label 0 ∷ operations x y z l value) number (Label 0)

-- the answers and the records of memory.rs in an edition and a frame of so many spills: 1 erase_block, 2 share_block_n, 3 store, 4 load; any other number is refused
-- with 3. 23 is asked for first, whatever the number
unfoldable pub memory_answer : ℕ → ℕ → ℕ → ℕ → ℕ → ℕ → ℕ → List ℕ → List ℕ → Answer
memory_answer edition frame number counter room w n context loaded =
    in_edition edition
    (λ g.
    cond (eqb number 1) (erase_in frame counter room w)
    (cond (eqb number 2) (share_in frame counter room w n)
    (cond (eqb number 3) (store_in edition frame counter room context n)
    (cond (eqb number 4) (load_in edition frame counter room loaded context) (Err Operand)))))
    (Err Edition)

unfoldable pub memory_records : ℕ → ℕ → ℕ → ℕ → ℕ → ℕ → List ℕ → List ℕ → List Code
memory_records edition frame number counter w n context loaded =
    in_edition edition
    (λ g.
    cond (eqb number 1) (erase_records_in frame counter w)
    (cond (eqb number 2) (share_records_in frame counter w n)
    (cond (eqb number 3) (store_records_in edition frame counter context n)
    (cond (eqb number 4) (load_records_in edition frame counter loaded context) []))))
    []
