-- The definitions at worked examples, each by computation.
use Rattle.std.specs.Prelude.{Err, Ok}
use Prim.Native.Nat.{ℕ, ◌-◌, ◌^◌}
use mathlib.Core.Path.{◌≡◌, refl}
use mathlib.Core.Bool.{true, false}
use mathlib.Core.List.{List, [], ◌∷◌}
use lib.ListN.{replicate}
use Rattle.records.specs.declared.code.Code.{Code}
use Rattle.records.specs.declared.code.Code.TheVariants.{ADDI, ADDIM, JMPL, JEL, JLL, MOVI, CMPI, PUSH, POP, CALL, RET, LAB}
use Rattle.records.specs.Names.{PRINTI64, first_unnamed}
use Rattle.machine_step.specs.declared.memory.Place.TheVariants.{Stack, Heap, Nowhere}
use Rattle.machine_step.specs.Memory.{heap_ok, place_of}
use Rattle.machine_step.specs.Step.{step}
use Rattle.machine.specs.declared.state.State.{State}
use Rattle.machine.specs.declared.run.Stop.TheVariants.{Malformed, Fault, Limit}
use Rattle.machine.specs.Run.{runs, started, places_of, ran, RunAnswer}
use Rattle.machine.specs.State.{see, entry_state, fresh_state, firsts}
use Rattle.layout.specs.Config.{base}
use Rattle.word.specs.Words.{sum, difference, signs, magnitude, negated, quotient, remainder, divides, less}

abbrev heap : List ℕ
heap = replicate 16 0

abbrev words : ℕ → ℕ
words i = 100 - i

abbrev answers : State → List Code → ℕ → RunAnswer
answers s p limit = (started words p limit (see s heap)).answer

abbrev registers : List Code → List ℕ
registers p = firsts 16 (started words p 100 (see (fresh_state base) heap)).last.state.reg

-- nothing to run has ended, whatever the limit; a record that the limit stops is not tried
ends : (answers (fresh_state base) [] 0 ≡ Ok 0) × (answers (entry_state base) (RET ∷ []) 1 ≡ Ok 1) × (answers (fresh_state base) (RET ∷ []) 0 ≡ Err (Limit 0))
unfolding runs step sum
ends = (refl, refl, refl)

-- a jump counts its own step and that of the LAB that it goes to
jumps : (answers (fresh_state base) (CMPI 4 0 ∷ JEL 1 ∷ ADDIM 4 0 1 ∷ LAB 1 ∷ []) 4 ≡ Ok 3) × (answers (fresh_state base) (JMPL 1 ∷ []) 4 ≡ Err (Fault 0 1))
    × (answers (fresh_state base) (JMPL 1 ∷ LAB 1 ∷ LAB 1 ∷ []) 4 ≡ Err (Fault 0 1))
unfolding runs step places_of place_of sum
jumps = (refl, refl, refl)

-- a conditional jump uses the compare up, a move does not
compares : (answers (fresh_state base) (CMPI 4 5 ∷ JEL 1 ∷ JLL 1 ∷ LAB 1 ∷ []) 9 ≡ Err (Fault 2 3)) × (answers (fresh_state base) (CMPI 4 5 ∷ MOVI 4 9 ∷ JLL 1 ∷ RET ∷ LAB 1 ∷ []) 9 ≡ Ok 4)
unfolding runs step places_of place_of sum less
compares = (refl, refl)

-- unaligned, below the heap, past the heap, past the stack
addresses : (place_of 320 16 65541 ≡ Nowhere) × (place_of 320 16 65528 ≡ Nowhere) × (place_of 320 16 65656 ≡ Heap 15) × (place_of 320 16 65664 ≡ Nowhere)
    × (place_of 320 16 1099511625216 ≡ Stack 319) × (place_of 320 16 1099511627768 ≡ Stack 0) × (place_of 320 16 1099511627776 ≡ Nowhere)
unfolding place_of
addresses = (refl, refl, refl, refl, refl, refl, refl)

-- −7 by 2 is −3 and −1 are left; −2^63 by −1 faults, by 1 does not; −1 is less than 0
signs_of_division : (quotient (2 ^ 64 - 7) 2 ≡ 2 ^ 64 - 3) × (remainder (2 ^ 64 - 7) 2 ≡ 2 ^ 64 - 1) × (divides (2 ^ 64 - 1) (2 ^ 63) (2 ^ 64 - 1) ≡ false)
    × (divides (2 ^ 64 - 1) (2 ^ 63) 1 ≡ true) × (divides 0 5 0 ≡ false) × (divides 1 5 1 ≡ false) × (less (2 ^ 64 - 1) 0 ≡ true) × (less 0 (2 ^ 63) ≡ false)
unfolding quotient remainder divides less magnitude negated signs sum
signs_of_division = (refl, refl, refl, refl, refl, refl, refl, refl)

-- 2^64 − 1 is pushed from register 4 and popped into STACK
pops_stack : registers (MOVI 4 18446744073709551615 ∷ PUSH 4 ∷ POP 0 ∷ []) ≡ 18446744073709551615 ∷ 0 ∷ 65536 ∷ 65600 ∷ 18446744073709551615 ∷ 0 ∷ 0 ∷ 65536 ∷ replicate 8 0
unfolding runs step place_of sum difference
pops_stack = refl

-- STACK pushed is STACK as it was
pushes_stack : registers (PUSH 0 ∷ POP 4 ∷ []) ≡ 1099511625672 ∷ 0 ∷ 65536 ∷ 65600 ∷ 1099511625672 ∷ 0 ∷ 0 ∷ 65536 ∷ replicate 8 0
unfolding runs step place_of sum difference
pushes_stack = refl

prints : (answers (fresh_state base) (CALL PRINTI64 ∷ []) 1 ≡ Err (Fault 0 1)) × (answers (fresh_state base) (ADDI 0 8 ∷ CALL first_unnamed ∷ []) 2 ≡ Err (Fault 1 2))
    × (registers (ADDI 0 8 ∷ CALL PRINTI64 ∷ []) ≡ 1099511625680 ∷ 100 ∷ 65536 ∷ 65600 ∷ 99 ∷ 98 ∷ 97 ∷ 96 ∷ 95 ∷ 94 ∷ 93 ∷ 92 ∷ replicate 4 0)
unfolding runs step sum
prints = (refl, refl, refl)

-- 2 with place 0 before a malformed record is seen
refuses : ((ran 8 words (1 ∷ []) 5 (see (fresh_state base) (replicate 17 0))).answer ≡ Err (Malformed 0))
unfolding ran heap_ok
refuses = refl
