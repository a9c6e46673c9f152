-- How each instruction leaves a record, and that the step goes by it: a plain one goes on or faults, and only the others jump, call or end.
use Rattle.std.specs.Prelude.{None, Some, Option}
use Prim.Native.Nat.{ℕ, ◌%◌}
use mathlib.Core.Path.{◌≡◌, refl, sym, ◌∙◌, subst}
use mathlib.Core.Bool.{Bool, not, ◌&&◌, cond}
use lib.Dec.{eqb}
use Rattle.records.specs.declared.code.Code.{Code}
use Rattle.records.specs.declared.code.Code.TheVariants.{ADD, ADDRM, ADDMR, ADDI, ADDIM, SUB, SUBRM, SUBMR, SUBI, IMUL, IMULRM, IMULMR, IDIV, IDIVM, CQO, JMP, JMPL, JMPLN, LEAL, MOV, MOVS, MOVL, MOVI, MOVIM, CMP, CMPRM, CMPMR, CMPI, CMPIM, JEL, JNEL, JLL, JLEL, JGL, JGEL, PUSH, POP, CALL, RET, LAB, NOEXECSTACK, TEXT, GLOBAL, EXTERN}
use Rattle.records.proofs.Conditions.{both_ways}
use Rattle.machine_step.specs.View.{View, put_reg}
use Rattle.machine_step.specs.Memory.{Operand, register, memory, immediate, load, store, value_of, assigned}
use Rattle.machine_step.specs.Step.{Config, Outcome, next, jump, end, fault, dropped, on_word, on_state, on_pair, calculate, move, compare, divide, branch, push, pop, is_print_name, call, return, step}
use Rattle.word.specs.Words.{sum, difference, product, divides, less}

pub data Flow : Type 0 where
  plain : Flow
  jumps : ℕ → Flow
  branches : (ℕ → ℕ → Bool) → ℕ → Flow
  mark : ℕ → Flow
  calling : ℕ → Flow
  returning : Flow
  stops : Flow

abbrev pub flow : Code → Flow
flow (ADD a b) = plain
flow (ADDRM a b c) = plain
flow (ADDMR a b c) = plain
flow (ADDI a b) = plain
flow (ADDIM a b c) = plain
flow (SUB a b) = plain
flow (SUBRM a b c) = plain
flow (SUBMR a b c) = plain
flow (SUBI a b) = plain
flow (IMUL a b) = plain
flow (IMULRM a b c) = plain
flow (IMULMR a b c) = plain
flow (IDIV a) = plain
flow (IDIVM a b) = plain
flow CQO = plain
flow (JMP a) = stops
flow (JMPL a) = jumps a
flow (JMPLN a) = jumps a
flow (LEAL a b) = stops
flow (MOV a b) = plain
flow (MOVS a b c) = plain
flow (MOVL a b c) = plain
flow (MOVI a b) = plain
flow (MOVIM a b c) = plain
flow (CMP a b) = plain
flow (CMPRM a b c) = plain
flow (CMPMR a b c) = plain
flow (CMPI a b) = plain
flow (CMPIM a b c) = plain
flow (JEL a) = branches eqb a
flow (JNEL a) = branches (λ x y. not (eqb x y)) a
flow (JLL a) = branches less a
flow (JLEL a) = branches (λ x y. not (less y x)) a
flow (JGL a) = branches (λ x y. less y x) a
flow (JGEL a) = branches (λ x y. not (less x y)) a
flow (PUSH a) = plain
flow (POP a) = plain
flow (CALL a) = calling a
flow RET = returning
flow (LAB a) = mark a
flow NOEXECSTACK = plain
flow TEXT = plain
flow (GLOBAL a) = plain
flow (EXTERN a) = plain

-- a plain instruction's outcome: on to the next record, or a fault with the configuration as before
abbrev pub plainly : Config → Outcome → Outcome
plainly c (next d) = next d
plainly c (jump label d) = fault c
plainly c (end d) = fault c
plainly c (fault d) = fault c

abbrev pub by_flow : (ℕ → ℕ) → Flow → Config → Outcome → Outcome
by_flow words plain c o = plainly c o
by_flow words (jumps label) c o = jump label (dropped c)
by_flow words (branches holds label) c o = branch holds label c
by_flow words (mark label) c o = next (dropped c)
by_flow words (calling label) c o = call words label c
by_flow words returning c o = return c
by_flow words stops c o = fault c

-- what goes on plainly after a word or a state is plain
module _ (c : Config) where
  abbrev Plain : Outcome → Type 0
  Plain o = o ≡ plainly c o

  word_plain : (l : Option ℕ) (k : ℕ → Outcome) → ((w : ℕ) → Plain (k w)) → Plain (on_word c l k)
  word_plain (Some w) k h = h w
  word_plain None k h = refl

  state_plain : (o : Option View) (f : View → Config) → Plain (on_state c o (λ s. next (f s)))
  state_plain (Some s) f = refl
  state_plain None f = refl

  arithmetic_plain : (f : ℕ → ℕ → ℕ) (dest src : Operand) → Plain (calculate f dest src c)
  arithmetic_plain f dest src = word_plain (value_of c.state src) _ (λ y. word_plain (value_of c.state dest) _ (λ x. state_plain (assigned c.state dest (f x y)) _))

  move_plain : (dest src : Operand) → Plain (move dest src c)
  move_plain dest src = word_plain (value_of c.state src) _ (λ y. state_plain (assigned c.state dest y) _)

  compare_plain : (dest src : Operand) → Plain (compare dest src c)
  compare_plain dest src = word_plain (value_of c.state src) _ (λ y. word_plain (value_of c.state dest) _ (λ x. refl))

  divide_plain : (src : Operand) → Plain (divide src c)
  divide_plain src = word_plain (value_of c.state src) _ (λ d. both_ways Plain (divides (c.state.reg 5) (c.state.reg 4) d) refl refl)

  push_plain : (a : ℕ) → Plain (push a c)
  push_plain a = state_plain (store (put_reg c.state 0 (difference (c.state.reg 0) 8)) (difference (c.state.reg 0) 8) (c.state.reg a)) _

  pop_plain : (a : ℕ) → Plain (pop a c)
  pop_plain a = word_plain (load c.state (c.state.reg 0)) _ (λ w. refl)

pub step_by_flow : (words : ℕ → ℕ) (x : Code) (c : Config) → step words x c ≡ by_flow words (flow x) c (step words x c)
unfolding step
step_by_flow words (ADD a b) z = arithmetic_plain z sum (register a) (register b)
step_by_flow words (ADDRM a b c) z = arithmetic_plain z sum (register a) (memory b c)
step_by_flow words (ADDMR a b c) z = arithmetic_plain z sum (memory a b) (register c)
step_by_flow words (ADDI a b) z = arithmetic_plain z sum (register a) (immediate b)
step_by_flow words (ADDIM a b c) z = arithmetic_plain z sum (memory a b) (immediate c)
step_by_flow words (SUB a b) z = arithmetic_plain z difference (register a) (register b)
step_by_flow words (SUBRM a b c) z = arithmetic_plain z difference (register a) (memory b c)
step_by_flow words (SUBMR a b c) z = arithmetic_plain z difference (memory a b) (register c)
step_by_flow words (SUBI a b) z = arithmetic_plain z difference (register a) (immediate b)
step_by_flow words (IMUL a b) z = arithmetic_plain z product (register a) (register b)
step_by_flow words (IMULRM a b c) z = arithmetic_plain z product (register a) (memory b c)
step_by_flow words (IMULMR a b c) z = arithmetic_plain z product (memory a b) (register c)
step_by_flow words (IDIV a) z = divide_plain z (register a)
step_by_flow words (IDIVM a b) z = divide_plain z (memory a b)
step_by_flow words CQO z = refl
step_by_flow words (JMP a) z = refl
step_by_flow words (JMPL a) z = refl
step_by_flow words (JMPLN a) z = refl
step_by_flow words (LEAL a b) z = refl
step_by_flow words (MOV a b) z = move_plain z (register a) (register b)
step_by_flow words (MOVS a b c) z = move_plain z (memory b c) (register a)
step_by_flow words (MOVL a b c) z = move_plain z (register a) (memory b c)
step_by_flow words (MOVI a b) z = move_plain z (register a) (immediate b)
step_by_flow words (MOVIM a b c) z = move_plain z (memory a b) (immediate c)
step_by_flow words (CMP a b) z = compare_plain z (register a) (register b)
step_by_flow words (CMPRM a b c) z = compare_plain z (register a) (memory b c)
step_by_flow words (CMPMR a b c) z = compare_plain z (memory a b) (register c)
step_by_flow words (CMPI a b) z = compare_plain z (register a) (immediate b)
step_by_flow words (CMPIM a b c) z = compare_plain z (memory a b) (immediate c)
step_by_flow words (JEL a) z = refl
step_by_flow words (JNEL a) z = refl
step_by_flow words (JLL a) z = refl
step_by_flow words (JLEL a) z = refl
step_by_flow words (JGL a) z = refl
step_by_flow words (JGEL a) z = refl
step_by_flow words (PUSH a) z = push_plain z a
step_by_flow words (POP a) z = pop_plain z a
step_by_flow words (CALL a) z = refl
step_by_flow words RET z = refl
step_by_flow words (LAB a) z = refl
step_by_flow words NOEXECSTACK z = refl
step_by_flow words TEXT z = refl
step_by_flow words (GLOBAL a) z = refl
step_by_flow words (EXTERN a) z = refl

-- a jump leaves the state
module _ (c : Config) where
  abbrev Still : Outcome → Type 0
  Still (next d) = Unit {0}
  Still (jump label d) = d.state ≡ c.state
  Still (end d) = Unit {0}
  Still (fault d) = Unit {0}

  plainly_still : (o : Outcome) → Still (plainly c o)
  plainly_still (next d) = tt
  plainly_still (jump label d) = tt
  plainly_still (end d) = tt
  plainly_still (fault d) = tt

  pair_still : (q : Option (ℕ × ℕ)) (holds : ℕ → ℕ → Bool) (label : ℕ) → Still (on_pair c q (λ x y. cond (holds x y) (jump label (dropped c)) (next (dropped c))))
  pair_still None holds label = tt
  pair_still (Some (x, y)) holds label = both_ways Still (holds x y) refl tt

  flow_still : (words : ℕ → ℕ) (f : Flow) (o : Outcome) → Still (by_flow words f c o)
  flow_still words plain o = plainly_still o
  flow_still words (jumps label) o = refl
  flow_still words (branches holds label) o = pair_still c.pair holds label
  flow_still words (mark label) o = tt
  flow_still words (calling label) o = both_ways Still (is_print_name label && eqb (c.state.reg 0 % 16) 0) tt tt
  flow_still words returning o = both_ways Still (eqb (c.state.reg 0) 1099511627768) tt tt
  flow_still words stops o = tt

  pub jump_keeps : (words : ℕ → ℕ) (x : Code) {label : ℕ} {d : Config} → step words x c ≡ jump label d → d.state ≡ c.state
  jump_keeps words x e = subst Still (sym (step_by_flow words x c) ∙ e) (flow_still words (flow x) (step words x c))
