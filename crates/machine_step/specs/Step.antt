-- One instruction: what each of the 44 does, name by name, in the Intel manual's words. From the scope, 'Machine'.
-- An instruction either changes the configuration whole or faults and leaves it as it was.
use Rattle.std.specs.Prelude.{ℕ, ◌%◌, Bool, not, ◌&&◌, ◌||◌, cond, List, [], ◌∷◌, ◌++◌, eqb, None, Some, Option}
use Rattle.records.specs.declared.code.Code.{Code}
use Rattle.records.specs.declared.code.Code.TheVariants.{ADD, ADDRM, ADDMR, ADDI, ADDIM, SUB, SUBRM, SUBMR, SUBI, IMUL, IMULRM, IMULMR, IDIV, IDIVM, CQO, JMP, JMPL, JMPLN, LEAL, MOV, MOVS, MOVL, MOVI, MOVIM, CMP, CMPRM, CMPMR, CMPI, CMPIM, JEL, JNEL, JLL, JLEL, JGL, JGEL, PUSH, POP, CALL, RET, LAB, NOEXECSTACK, TEXT, GLOBAL, EXTERN}
use Rattle.records.specs.Names.{PRINTI64, PRINTLNI64}
use Rattle.machine_step.specs.declared.instruction.Went.{Went}
use Rattle.machine_step.specs.declared.instruction.Went.TheVariants.{Next, Called, Jump, End, Fault}
use Rattle.machine_step.specs.View.{View, upd, put_reg}
use Rattle.machine_step.specs.Memory.{stack_entry, Operand, register, memory, immediate, load, store, value_of, assigned}
use Rattle.word.specs.Words.{sum, difference, product, signs, quotient, remainder, divides, less}

-- a call that was made: the name's number, and what register 7 held
pub record Call : Type 0 where
  pub name : ℕ
  pub number : ℕ

-- registers, stack and heap; the last compare's pair; the calls made so far
pub record Config : Type 0 where
  pub state : View
  pub pair : Option (ℕ × ℕ)
  pub calls : List Call

abbrev pub config : View → Option (ℕ × ℕ) → List Call → Config
config s q calls = record { state = s; pair = q; calls = calls }

-- on to the next record, to the LAB with a label, at the end, or a fault with the configuration as before
pub data Outcome : Type 0 where
  next : Config → Outcome
  jump : ℕ → Config → Outcome
  end : Config → Outcome
  fault : Config → Outcome

-- the state changes, and the compare's pair is dropped
abbrev pub changed : Config → View → Config
changed c s = config s None c.calls

-- the state changes, and the pair stays
abbrev pub moved : Config → View → Config
moved c s = config s c.pair c.calls

abbrev pub dropped : Config → Config
dropped c = changed c c.state

abbrev pub on_word : Config → Option ℕ → (ℕ → Outcome) → Outcome
on_word c (Some w) k = k w
on_word c None k = fault c

abbrev pub on_state : Config → Option View → (View → Outcome) → Outcome
on_state c (Some s) k = k s
on_state c None k = fault c

abbrev pub on_pair : Config → Option (ℕ × ℕ) → (ℕ → ℕ → Outcome) → Outcome
on_pair c (Some (x, y)) k = k x y
on_pair c None k = fault c

-- DEST ← f DEST SRC
abbrev pub calculate : (ℕ → ℕ → ℕ) → Operand → Operand → Config → Outcome
calculate f dest src c =
    on_word c (value_of c.state src)
    (λ y. on_word c (value_of c.state dest) (λ x. on_state c (assigned c.state dest (f x y)) (λ s. next (changed c s))))

-- DEST ← SRC
abbrev pub move : Operand → Operand → Config → Outcome
move dest src c = on_word c (value_of c.state src) (λ y. on_state c (assigned c.state dest y) (λ s. next (moved c s)))

-- DEST and SRC are compared
abbrev pub compare : Operand → Operand → Config → Outcome
compare dest src c =
    on_word c (value_of c.state src)
    (λ y. on_word c (value_of c.state dest) (λ x. next (config c.state (Some (x, y)) c.calls)))

-- RAX ← quotient, RDX ← remainder of RDX:RAX by SRC
abbrev pub divide : Operand → Config → Outcome
divide src c =
    on_word c (value_of c.state src)
    (λ d. cond (divides (c.state.reg 5) (c.state.reg 4) d)
    (next (changed c (put_reg (put_reg c.state 4 (quotient (c.state.reg 4) d)) 5 (remainder (c.state.reg 4) d))))
    (fault c))

-- jump to the label where the last compare's words hold so
abbrev pub branch : (ℕ → ℕ → Bool) → ℕ → Config → Outcome
branch holds label c = on_pair c c.pair (λ x y. cond (holds x y) (jump label (dropped c)) (next (dropped c)))

-- RSP ← RSP − 8, then the word at RSP ← SRC as it was before
abbrev pub push : ℕ → Config → Outcome
push a c =
    on_state c (store (put_reg c.state 0 (difference (c.state.reg 0) 8)) (difference (c.state.reg 0) 8) (c.state.reg a))
    (λ s. next (changed c s))

-- RSP ← RSP + 8, then DEST ← the word where RSP was
abbrev pub pop : ℕ → Config → Outcome
pop a c = on_word c (load c.state (c.state.reg 0)) (λ w. next (changed c (put_reg (put_reg c.state 0 (sum (c.state.reg 0) 8)) a w)))

-- PRINT_I64 and PRINTLN_I64
abbrev pub is_print_name : ℕ → Bool
is_print_name label = eqb label PRINTI64 || eqb label PRINTLNI64

-- what a print leaves: the nine lent words in registers 1 and 4..11
abbrev pub after_print : (ℕ → ℕ) → View → View
after_print words s =
    record { reg = upd (upd (upd (upd (upd (upd (upd (upd (upd s.reg 1 (words 0)) 4 (words 1)) 5 (words 2)) 6 (words 3)) 7 (words 4)) 8 (words 5)) 9 (words 6)) 10 (words 7)) 11 (words 8); stk = s.stk; mem = s.mem; depth = s.depth; size = s.size }

abbrev pub call : (ℕ → ℕ) → ℕ → Config → Outcome
call words label c =
    cond (is_print_name label && eqb (c.state.reg 0 % 16) 0)
    (next (config (after_print words c.state) None (c.calls ++ (record { name = label; number = c.state.reg 7 } ∷ []))))
    (fault c)

-- only at 2^40 − 8
abbrev pub return : Config → Outcome
return c = cond (eqb (c.state.reg 0) stack_entry) (end (changed c (put_reg c.state 0 (sum (c.state.reg 0) 8)))) (fault c)

-- the instruction, where print calls leave the nine words
unfoldable pub step : (ℕ → ℕ) → Code → Config → Outcome
step words (ADD a b) c = calculate sum (register a) (register b) c
step words (ADDRM a b offset) c = calculate sum (register a) (memory b offset) c
step words (ADDMR a offset b) c = calculate sum (memory a offset) (register b) c
step words (ADDI a value) c = calculate sum (register a) (immediate value) c
step words (ADDIM a offset value) c = calculate sum (memory a offset) (immediate value) c
step words (SUB a b) c = calculate difference (register a) (register b) c
step words (SUBRM a b offset) c = calculate difference (register a) (memory b offset) c
step words (SUBMR a offset b) c = calculate difference (memory a offset) (register b) c
step words (SUBI a value) c = calculate difference (register a) (immediate value) c
step words (IMUL a b) c = calculate product (register a) (register b) c
step words (IMULRM a b offset) c = calculate product (register a) (memory b offset) c
step words (IMULMR a offset b) c = calculate product (memory a offset) (register b) c
step words (IDIV a) c = divide (register a) c
step words (IDIVM a offset) c = divide (memory a offset) c
step words CQO c = next (changed c (put_reg c.state 5 (signs (c.state.reg 4))))
step words (JMP a) c = fault c
step words (JMPL label) c = jump label (dropped c)
step words (JMPLN label) c = jump label (dropped c)
step words (LEAL a label) c = fault c
step words (MOV a b) c = move (register a) (register b) c
step words (MOVS a b offset) c = move (memory b offset) (register a) c
step words (MOVL a b offset) c = move (register a) (memory b offset) c
step words (MOVI a value) c = move (register a) (immediate value) c
step words (MOVIM a offset value) c = move (memory a offset) (immediate value) c
step words (CMP a b) c = compare (register a) (register b) c
step words (CMPRM a b offset) c = compare (register a) (memory b offset) c
step words (CMPMR a offset b) c = compare (memory a offset) (register b) c
step words (CMPI a value) c = compare (register a) (immediate value) c
step words (CMPIM a offset value) c = compare (memory a offset) (immediate value) c
step words (JEL label) c = branch eqb label c
step words (JNEL label) c = branch (λ x y. not (eqb x y)) label c
step words (JLL label) c = branch less label c
step words (JLEL label) c = branch (λ x y. not (less y x)) label c
step words (JGL label) c = branch (λ x y. less y x) label c
step words (JGEL label) c = branch (λ x y. not (less x y)) label c
step words (PUSH a) c = push a c
step words (POP a) c = pop a c
step words (CALL label) c = call words label c
step words RET c = return c
step words (LAB label) c = next (dropped c)
step words NOEXECSTACK c = next (dropped c)
step words TEXT c = next (dropped c)
step words (GLOBAL label) c = next (dropped c)
step words (EXTERN label) c = next (dropped c)

-- what an answer of the code, with the state, the pair and the calls made before it, says of the outcome
abbrev pub outcome_of : Went → View → Option (ℕ × ℕ) → List Call → Outcome
outcome_of Next s q calls = next (config s q calls)
outcome_of (Called name number) s q calls = next (config s q (calls ++ (record { name = name; number = number } ∷ [])))
outcome_of (Jump label) s q calls = jump label (config s q calls)
outcome_of End s q calls = end (config s q calls)
outcome_of Fault s q calls = fault (config s q calls)
