-- What the crate promises, for every supported shape: the bytes that code.rs's operations write do on the scope's machine what they name, for every operand that a caller
-- may give (registers 4..15 and the frame's spills from 1, the target equal to a source included), with STACK where the routine's setup leaves it; and jumps go where they name
-- in every list of records. An operand is a word, register r is r and spill p is 16 + p; `held c l` is the word at operand l. Words are any numbers: sums, differences and
-- products are taken modulo 2^64 whatever the operands hold.
use Rattle.std.specs.Prelude.{ℕ, ◌+◌, ◌^◌, ◌≤◌, ◌<◌, ◌≡◌, ◌≢◌, Bool, true, false, not, List, [], ◌∷◌, ◌++◌, eqb, length, drop, Ok, Err}
use Rattle.records.specs.declared.code.Code.{Code}
use Rattle.records.specs.declared.order.Calculation.{Calculation}
use Rattle.records.specs.declared.order.Calculation.TheVariants.{Add, Sub, Mul, Div, Rem}
use Rattle.records.specs.ReadBack.{joined, code_bytes}
use Rattle.layout.specs.declared.config.Shape.{Shape}
use Rattle.layout.specs.Config.{Supported, block_words, stack_depth, STACK, TEMP, RETURN1, RETURN2}
use Rattle.layout.specs.Positions.{operand_ok}
use Rattle.code.specs.declared.emitters.Condition.{Condition}
use Rattle.code.specs.declared.emitters.Condition.TheVariants.{Equal, NotEqual, Less, LessOrEqual, Greater, GreaterOrEqual}
use Rattle.code.specs.Code.{jump_if}
use Rattle.operations.specs.declared.operation.Operation.TheVariants.{Label, JumpLabel, JumpLabelFixed, JumpLabelIf, JumpLabelIfZero, LoadImmediate, Arithmetic, Mov, Compare, CompareImmediate}
use Rattle.operations.specs.Operations.{operation_records}
use Rattle.word.specs.Words.{choose, less}
use Rattle.word.specs.Results.{result, result_defined}
use Rattle.machine_step.specs.View.{View, words_of}
use Rattle.machine_step.specs.Memory.{heap_ok}
use Rattle.machine_step.specs.Step.{Config}
use Rattle.machine.specs.declared.run.Stop.TheVariants.{Fault}
use Rattle.machine.specs.Run.{places_of, done, ran, starting}
use Rattle.machine.specs.State.{fresh_state}
use Rattle.trees_proof.specs.Claims.{RunsTo}
use Rattle.layout_proof.specs.Held.{held, Keeps, Placed}

-- from c to d nothing changed but operands outside P and the compare
pub record Unchanged (P : ℕ → Type 0) (c d : Config) : Type 0 where
  -- the operands of P, registers and spills; the stack's words that are no spill; how many words the stack and the heap have; the calls
  pub kept : Keeps P c d
  pub heap : d.state.mem ≡ c.state.mem

-- operand t holds w, and every other but TEMP holds what it held: STACK, HEAP, FREE and spill 0 too
abbrev pub Sets : ℕ → ℕ → Config → Config → Type 0
Sets t w c d = (held d t ≡ w) × Unchanged (λ l. (l ≢ t) × (l ≢ TEMP)) c d

-- the target differs from both sources and from registers 4 and 5, and the divisor is not register 4
pub record DivisionOperands (t x y : ℕ) : Type 0 where
  pub not_dividend : t ≢ x
  pub not_divisor : t ≢ y
  pub not_quotient : t ≢ RETURN1
  pub not_remainder : t ≢ RETURN2
  pub divisor : y ≢ RETURN1

-- what an operation asks of its operands
abbrev pub OperandsFor : Calculation → ℕ → ℕ → ℕ → Type 0
OperandsFor Add t x y = Unit {0}
OperandsFor Sub t x y = Unit {0}
OperandsFor Mul t x y = Unit {0}
OperandsFor Div t x y = DivisionOperands t x y
OperandsFor Rem t x y = DivisionOperands t x y

-- the relation that a condition names, of words as signed numbers
abbrev pub relation : Condition → ℕ → ℕ → Bool
relation Equal x y = eqb x y
relation NotEqual x y = not (eqb x y)
relation Less x y = less x y
relation LessOrEqual x y = not (less y x)
relation Greater x y = less y x
relation GreaterOrEqual x y = not (less x y)

-- at most `most` steps of the list p lead from place `from` to place `to`, and nothing but TEMP changed
pub record Goes (words : ℕ → ℕ) (p : List Code) (most from to : ℕ) (c : Config) : Type 0 where
  pub at : Config
  pub run : RunsTo words p most from to c at
  pub rest : Unchanged (λ l. l ≢ TEMP) c at

-- records that stand at place i of p go to place j if b, else to the place past them
abbrev pub GoesIf : Bool → (ℕ → ℕ) → List Code → ℕ → ℕ → List Code → Config → Type 0
GoesIf b words p i j records c =
    (rest : List Code) → drop i p ≡ records ++ rest → Goes words p (length records) i (choose b j (i + length records)) c

-- the jumps to a label at place j, from place i
pub record Jumps (G : Shape) (words : ℕ → ℕ) (p : List Code) (label i j : ℕ) (c : Config) : Type 0 where
  pub jump_label : GoesIf true words p i j (operation_records G (JumpLabel label)) c
  pub jump_label_fixed : GoesIf true words p i j (operation_records G (JumpLabelFixed label)) c
  -- jump_label_if_equal and the five others: two operands
  pub jump_label_if : (k : Condition) (x y : ℕ) → operand_ok G x ≡ true → operand_ok G y ≡ true
      → GoesIf (relation k (held c x) (held c y)) words p i j (operation_records G (JumpLabelIf k x y label)) c
  -- jump_label_if_zero and the five others: an operand and zero
  pub jump_label_if_zero : (k : Condition) (x : ℕ) → operand_ok G x ≡ true
      → GoesIf (relation k (held c x) 0) words p i j (operation_records G (JumpLabelIfZero k x label)) c
  -- compare and compare_immediate, and a conditional jump after them
  pub compare : (k : Condition) (x y : ℕ) → operand_ok G x ≡ true → operand_ok G y ≡ true
      → GoesIf (relation k (held c x) (held c y)) words p i j (operation_records G (Compare x y) ++ (jump_if k label ∷ [])) c
  pub compares_immediate : (k : Condition) (x value : ℕ) → operand_ok G x ≡ true
      → GoesIf (relation k (held c x) value) words p i j (operation_records G (CompareImmediate x value) ++ (jump_if k label ∷ [])) c

-- in a list that holds the label once; its bytes run as its records do (`written_is_read`, lists)
unfoldable pub JumpsWhereItNames : Type 0
JumpsWhereItNames =
    (G : Shape) (words : ℕ → ℕ) (p : List Code) (label i j blocks : ℕ) (c : Config) → places_of label p 0 ≡ j ∷ [] → Placed G blocks c → Jumps G words p label i j c

-- a label goes on to the next record, whatever list it stands in
unfoldable pub LabelDoesNothing : Type 0
LabelDoesNothing = (G : Shape) (words : ℕ → ℕ) (p : List Code) (label i : ℕ) (c : Config) → GoesIf false words p i i (operation_records G (Label label)) c

-- a state that operations run in: a stack as deep as the frame asks, STACK where the routine's setup leaves it, and a heap that the machine takes
pub record Ready (G : Shape) (v : View) : Type 0 where
  pub deep : v.depth ≡ stack_depth G
  pub stack : v.reg STACK ≡ words_of (fresh_state G).registers STACK
  pub heap : heap_ok (block_words G) v.size ≡ true

-- the bytes of the records, run from the first with their number as step limit, come to the end
pub record EndsWith (G : Shape) (words : ℕ → ℕ) (records : List Code) (v : View) (Q : Config → Type 0) : Type 0 where
  pub steps : ℕ
  pub within : steps ≤ length records
  pub last : Config
  pub run : ran (block_words G) words (joined code_bytes records) (length records) v ≡ done (Ok steps) last
  pub post : Q last

-- they come to a fault, at one of them; a division's with target t, and only t, TEMP and registers 4 and 5 are then other than before
pub record FaultsWith (G : Shape) (words : ℕ → ℕ) (records : List Code) (v : View) (t : ℕ) : Type 0 where
  pub steps : ℕ
  pub within : steps < length records
  pub place : ℕ
  pub above : 0 < place
  pub below : place ≤ length records
  pub last : Config
  pub run : ran (block_words G) words (joined code_bytes records) (length records) v ≡ done (Err (Fault steps place)) last
  pub rest : Unchanged (λ l. (l ≢ t) × (l ≢ TEMP) × (l ≢ RETURN1) × (l ≢ RETURN2)) (starting v) last

-- what the records that the operations without jumps write do when they are run, by the words that the sources held before
pub record Runs (G : Shape) (words : ℕ → ℕ) (v : View) (t x y : ℕ) : Type 0 where
  pub loads_immediate : (value : ℕ) → value < 2 ^ 64 → EndsWith G words (operation_records G (LoadImmediate t value)) v (Sets t value (starting v))
  pub mov : EndsWith G words (operation_records G (Mov t x)) v (Sets t (held (starting v) x) (starting v))
  pub arithmetic : (o : Calculation) → OperandsFor o t x y → result_defined o (held (starting v) x) (held (starting v) y) ≡ true
      → EndsWith G words (operation_records G (Arithmetic o t x y)) v (Sets t (result o (held (starting v) x) (held (starting v) y)) (starting v))
  pub faults : (o : Calculation) → OperandsFor o t x y → result_defined o (held (starting v) x) (held (starting v) y) ≡ false
      → FaultsWith G words (operation_records G (Arithmetic o t x y)) v t

unfoldable pub RunsAsItNames : Type 0
RunsAsItNames =
    (G : Shape) → Supported G → (words : ℕ → ℕ) (v : View) → Ready G v
    → (t x y : ℕ) → operand_ok G t ≡ true → operand_ok G x ≡ true → operand_ok G y ≡ true → Runs G words v t x y
