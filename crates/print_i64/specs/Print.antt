-- What print_i64 writes and answers. From code.rs, print_i64, save_caller_save_registers and restore_caller_save_registers, and the scope:
-- 'An even count of pushes, zero included, subtracts 8 from STACK'. Causes: 15 to 17 the context, then 3 the frame or the source, 10 the room; no labels are drawn.
use Rattle.records.specs.declared.context.Flaw.{Flaw}
use Rattle.std.specs.Prelude.{ℕ, ◌+◌, ◌*◌, ◌-◌, ◌%◌, ◌≡◌, refl, Bool, true, cond, List, [], ◌∷◌, ltb, eqb, length, take, drop, Err, Ok, Result}
use Rattle.records.specs.declared.code.Code.{Code}
use Rattle.records.specs.declared.code.Code.TheVariants.{ADDI, SUBI, MOV, MOVL, PUSH, POP, CALL}
use Rattle.records.specs.Contexts.{checked_context, ext_at}
use Rattle.records.specs.Names.{PRINTI64, PRINTLNI64}
use Rattle.trees.specs.Tree.{Tree, straight, nop, leaf, seq, size, flat}
use Rattle.emit.specs.declared.answer.Refusal.TheVariants.{Context, Operand}
use Rattle.emit.specs.Answers.{unframed, granted, Answers, Answer}
use Rattle.layout.specs.declared.config.Shape.{Shape}
use Rattle.layout.specs.Config.{STACK, TEMP, stack_offset, in_frame, register_for}
use Rattle.layout.specs.Positions.{operand_ok}
use Rattle.print_i64.specs.Registers.{registers_to_save, first_backup, backups_used}

-- each register into the next free one, from f on
abbrev pub moves : ℕ → List ℕ → Tree
moves f [] = nop
moves f (r ∷ rs) = seq (leaf (MOV f r) refl) (moves (f + 1) rs)

-- and back
abbrev pub moves_back : ℕ → List ℕ → Tree
moves_back f [] = nop
moves_back f (r ∷ rs) = seq (leaf (MOV r f) refl) (moves_back (f + 1) rs)

abbrev pub pushes : List ℕ → Tree
pushes [] = nop
pushes (r ∷ rs) = seq (leaf (PUSH r) refl) (pushes rs)

-- the last one pushed comes first
abbrev pub pops : List ℕ → Tree
pops [] = nop
pops (r ∷ rs) = seq (pops rs) (leaf (POP r) refl)

-- x where the number of pushes is even
abbrev pub if_even : ℕ → (x : Code) → straight x ≡ true → Tree
if_even pushed x s = cond (eqb (pushed % 2) 0) (leaf x s) nop

-- save_caller_save_registers: the first `used` registers go to those from f on, the others are pushed
abbrev pub save_registers : ℕ → ℕ → List ℕ → Tree
save_registers f used rs =
    seq (seq (moves f (take used rs)) (pushes (drop used rs))) (if_even (length rs - used) (SUBI STACK 8) refl)

-- restore_caller_save_registers
abbrev pub restore_registers : ℕ → ℕ → List ℕ → Tree
restore_registers f used rs =
    seq (moves_back f (take used rs)) (seq (if_even (length rs - used) (ADDI STACK 8) refl) (pops (drop used rs)))

-- a source in a spill goes to TEMP before STACK is changed
abbrev pub source_to_temp : Shape → ℕ → Tree
source_to_temp g w = cond (ltb w 16) nop (leaf (MOVL TEMP STACK (stack_offset g w)) refl)

-- the names PRINT_I64 and PRINTLN_I64
abbrev pub print_name : Bool → ℕ
print_name newline = cond newline PRINTLNI64 PRINTI64

-- the source to register 7, the first argument's, and the call
abbrev pub call_print : Bool → ℕ → Tree
call_print newline w = seq (leaf (MOV 7 (register_for w)) refl) (leaf (CALL (print_name newline)) refl)

-- the call with the registers rs saved around it
abbrev pub print_saving : Shape → Bool → ℕ → ℕ → ℕ → List ℕ → Tree
print_saving g newline w f used rs =
    seq (source_to_temp g w) (seq (save_registers f used rs) (seq (call_print newline w) (restore_registers f used rs)))

-- print_i64 of the operand w, in a context of n variables
abbrev pub print_i64 : Shape → Bool → ℕ → (ℕ → Bool) → ℕ → Tree
print_i64 g newline w ext n =
    print_saving g newline w (first_backup n) (backups_used n (length (registers_to_save ext n))) (registers_to_save ext n)

-- its answer for an output of so many bytes, where the context's check came out so
abbrev pub print_answer : Shape → ℕ → Bool → ℕ → List ℕ → Result ℕ Flaw → Answer
print_answer g room newline w s (Ok n) =
    cond (operand_ok g w) (granted 0 room (24 * size (print_i64 g newline w (ext_at s) n)) 0) (Err Operand)
print_answer g room newline w s (Err flaw) = Err (Context flaw)

-- its records
abbrev pub print_records : Shape → Bool → ℕ → List ℕ → Result ℕ Flaw → List Code
print_records g newline w s (Ok n) = flat (print_i64 g newline w (ext_at s) n) 0
print_records g newline w s (Err flaw) = []

-- its answer and its records in a frame of so many spills, in the context s
abbrev pub print_in : ℕ → ℕ → Bool → ℕ → List ℕ → Answer
print_in frame room newline w s =
    in_frame frame (λ g. print_answer g room newline w s (checked_context s)) (unframed (checked_context s))

abbrev pub print_records_in : ℕ → Bool → ℕ → List ℕ → List Code
print_records_in frame newline w s = in_frame frame (λ g. print_records g newline w s (checked_context s)) []

-- what print_i64 ensures of the output before and after, and of its answer
abbrev pub Prints : ℕ → List ℕ → List ℕ → Answer → Bool → ℕ → List ℕ → Type 0
Prints frame o o' r newline w s = Answers o o' r (print_in frame (length o) newline w s) (print_records_in frame newline w s)
