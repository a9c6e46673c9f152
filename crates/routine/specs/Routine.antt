-- A whole routine around a body of records. From into_routine.rs, function by function, and the scope, 'Causes and numbers': 2 for a record of the body
-- or one past 65,506, 3 for the frame, 6 for more than 5 arguments, 10 for the room. The body stands in the output as it was given.
use Rattle.std.specs.Prelude.{ℕ, zero, suc, ◌+◌, ◌*◌, ◌≡◌, cond, List, [], ◌∷◌, ◌++◌, ltb, length, get_or, Err}
use Rattle.std.proofs.lemmas.List.Edits.{sets}
use Rattle.records.specs.declared.code.Code.{Code}
use Rattle.records.specs.declared.code.Code.TheVariants.{ADDI, SUBI, MOV, PUSH, POP, RET, LAB, NOEXECSTACK, TEXT, GLOBAL, EXTERN}
use Rattle.records.specs.Instructions.{checked_codes}
use Rattle.records.specs.ReadBack.{joined, code_bytes}
use Rattle.records.specs.Names.{ASMMAIN, CLEANUP, PRINTI64, PRINTLNI64}
use Rattle.records.specs.Checked.{on_checked}
use Rattle.emit.specs.declared.answer.Refusal.TheVariants.{Body, Operand, Arguments, Edition}
use Rattle.emit.specs.Answers.{cause_of, granted, accepted, Answer}
use Rattle.layout.specs.declared.config.Shape.{Shape}
use Rattle.layout.specs.Config.{STACK, HEAP, FREE, block_bytes, shape_of, in_shape}

-- the register that a function's argument is passed in: rdi, rsi, rdx, rcx, r8, r9
abbrev pub argument : ℕ → ℕ
argument n = get_or (7 ∷ 6 ∷ 5 ∷ 1 ∷ 8 ∷ 9 ∷ []) n 0

abbrev pub preamble : List Code
preamble = NOEXECSTACK ∷ TEXT ∷ EXTERN PRINTI64 ∷ EXTERN PRINTLNI64 ∷ GLOBAL ASMMAIN ∷ LAB ASMMAIN ∷ []

-- the arguments after the heap's address, the last first: argument n to register 2n + 3, the Snd of its variable
abbrev pub move_arguments : ℕ → List Code
move_arguments zero = []
move_arguments (suc n) = MOV (2 * suc n + 3) (argument (suc n)) ∷ move_arguments n

module _ (g : Shape) where
  -- how many bytes the spills take
  abbrev pub spill_space : ℕ
  spill_space = 8 * g.spills

  -- registers that the caller keeps are pushed, and HEAP and FREE are the first two blocks
  abbrev pub setup : List Code
  setup =
      PUSH 2
      ∷ PUSH 3
      ∷ PUSH 12
      ∷ PUSH 13
      ∷ PUSH 14
      ∷ PUSH 15
      ∷ SUBI STACK spill_space
      ∷ MOV HEAP (argument 0)
      ∷ MOV FREE HEAP
      ∷ ADDI FREE (block_bytes g)
      ∷ []

  abbrev pub cleanup : List Code
  cleanup =
      LAB CLEANUP
      ∷ ADDI STACK spill_space
      ∷ POP 15
      ∷ POP 14
      ∷ POP 13
      ∷ POP 12
      ∷ POP 3
      ∷ POP 2
      ∷ RET
      ∷ []

  -- the records before the body, for n arguments
  abbrev pub head : ℕ → List Code
  head n = (preamble ++ setup) ++ move_arguments n

  -- the routine's bytes
  unfoldable pub routine_bytes : ℕ → List ℕ → List ℕ
  routine_bytes n body = joined code_bytes (head n) ++ (body ++ joined code_bytes cleanup)

  -- the answer for a body that is accepted, and an output of so many bytes
  abbrev pub accepting : ℕ → ℕ → List ℕ → Answer
  accepting room n body = cond (ltb 5 n) (Err Arguments) (granted 0 room (length (routine_bytes n body)) 0)

  unfoldable pub routine_answer : ℕ → ℕ → List ℕ → Answer
  routine_answer room n body = on_checked (checked_codes 65506 body) (λ k. accepting room n body) (λ place. Err (Body place))

-- the answer and the routine's bytes in an edition and a frame of so many spills
abbrev pub routine_in : ℕ → ℕ → ℕ → ℕ → List ℕ → Answer
routine_in edition frame room n body =
    in_shape (shape_of edition frame) (λ g. routine_answer g room n body) (on_checked (checked_codes 65506 body) (λ k. Err Operand) (λ place. Err (Body place))) (Err Edition)

abbrev pub routine_bytes_in : ℕ → ℕ → ℕ → List ℕ → List ℕ
routine_bytes_in edition frame n body = in_shape (shape_of edition frame) (λ g. routine_bytes g n body) [] []

-- what into_x86_64_routine ensures of the output before and after: its answer is the one expected, and the output holds the routine's bytes from its start
-- if it is written, else it is as it was
pub record Assembles (o o' : List ℕ) (r expected : Answer) (routine : List ℕ) : Type 0 where
  pub answer : r ≡ expected
  pub cause : cause_of r ≡ cause_of expected
  pub bytes : o' ≡ cond (accepted expected) (sets o 0 routine) o
