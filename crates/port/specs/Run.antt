-- The state to start from, and what the exported run gives, each by the edition, the frame and the stack that is lent.
use Rattle.layout.specs.declared.config.Unshaped.{Unshaped}
use Rattle.records.specs.declared.check.Malformed.{Malformed}
use Rattle.std.specs.Prelude.{ℕ, Bool, cond, List, [], ◌∷◌, ◌≡◌, Err, Ok, Result, Option}
use Rattle.records.specs.Causes.{ACCEPTED, MALFORMED, OPERAND, EDITION}
use Rattle.records.specs.Instructions.{checked_codes}
use Rattle.layout.specs.declared.config.Shape.{Shape}
use Rattle.layout.specs.Config.{in_choice, in_shape, block_words}
use Rattle.machine_step.specs.View.{View}
use Rattle.machine_step.specs.Memory.{heap_ok}
use Rattle.machine.specs.declared.state.State.{State}
use Rattle.machine.specs.State.{entry_state, fresh_state}
use Rattle.machine.specs.Run.{ran}
use Rattle.port_numbers.specs.Run.{run_numbers}

-- the state to start from: the fresh routine's, else the one at a routine's entry
abbrev pub start_state : Shape → Bool → State
start_state g fresh = cond fresh (fresh_state g) (entry_state g)

-- the number, and registers and stack before and after; without a frame, or on a stack that is not the frame's, 3, without an edition 23, and nothing is set
pub record StartsRun (f : Result Shape Unshaped) (fresh : Bool) (number : ℕ) (registers registers' stack stack' : List ℕ) : Type 0 where
  pub answer : number ≡ in_shape f (λ g. ACCEPTED) OPERAND EDITION
  pub registers_set : registers' ≡ in_shape f (λ g. (start_state g fresh).registers) registers registers
  pub stack_set : stack' ≡ in_shape f (λ g. (start_state g fresh).stack) stack stack

abbrev pub on_codes : Result ℕ Malformed → List ℕ
on_codes (Ok n) = OPERAND ∷ 0 ∷ 0 ∷ []
on_codes (Err bad) = MALFORMED ∷ 0 ∷ bad.place ∷ []

-- what a run without a frame is answered: 2 with the place, 0 for the heap, comes before 3
unfoldable pub unrun : ℕ → List ℕ → ℕ → List ℕ
unrun block s size = cond (heap_ok block size) (on_codes (checked_codes 65536 s)) (MALFORMED ∷ 0 ∷ 0 ∷ [])

-- the number, the steps and the place, and a state and a heap seen as v before and v' after, are what a run of the records s gives: by the blocks of an edition, and by
-- a frame that the stack goes with
pub record Gives (edition frame : Option Shape) (words : ℕ → ℕ) (s : List ℕ) (limit : ℕ) (v v' : View) (number steps place : ℕ) : Type 0 where
  pub numbers :
      number ∷ steps ∷ place ∷ []
      ≡ in_choice edition (λ b. in_choice frame (λ g. run_numbers (ran (block_words b) words s limit v).answer) (unrun (block_words b) s v.size)) (EDITION ∷ 0 ∷ 0 ∷ [])
  pub last : v' ≡ in_choice edition (λ b. in_choice frame (λ g. (ran (block_words b) words s limit v).last.state) v) v
