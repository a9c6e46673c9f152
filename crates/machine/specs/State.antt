-- The machine's state, the one at entry, and the one that orders start from. From the scope, 'Machine': a stack of 320 words, all zero at entry, STACK enters at 2^40−8; and
-- 'Order record': the first state follows the 16 records before the body of a 0-argument routine, entered with 65,536 in register 7 and zero in the others but STACK.
use Rattle.std.specs.Prelude.{ℕ, zero, suc, ◌+◌, List, [], ◌∷◌, replicate}
use Rattle.layout.specs.declared.config.Shape.{Shape}
use Rattle.layout.specs.Config.{stack_depth, frame_pointer, block_bytes}
use Rattle.machine_step.specs.View.{View, view}
use Rattle.machine_step.specs.Memory.{stack_entry, heap_start}
use Rattle.machine.specs.declared.state.State.{State}

-- a state beside a heap, as functions
abbrev pub see : State → List ℕ → View
see s heap = view s.registers s.stack heap

abbrev pub entry_registers : List ℕ
entry_registers = stack_entry ∷ 0 ∷ 0 ∷ 0 ∷ 0 ∷ 0 ∷ 0 ∷ heap_start ∷ 0 ∷ 0 ∷ 0 ∷ 0 ∷ 0 ∷ 0 ∷ 0 ∷ 0 ∷ []

-- with a stack as deep as the frame asks
abbrev pub entry_state : Shape → State
entry_state g = record { registers = entry_registers; stack = replicate (stack_depth g) 0 }

-- what the records before the body of a routine with no argument leave: STACK below seven words and the frame, HEAP at block 0, FREE at block 1
abbrev pub fresh_registers : Shape → List ℕ
fresh_registers g = frame_pointer g ∷ 0 ∷ heap_start ∷ (heap_start + block_bytes g) ∷ 0 ∷ 0 ∷ 0 ∷ heap_start ∷ 0 ∷ 0 ∷ 0 ∷ 0 ∷ 0 ∷ 0 ∷ 0 ∷ 0 ∷ []

abbrev pub fresh_state : Shape → State
fresh_state g = record { registers = fresh_registers g; stack = replicate (stack_depth g) 0 }

-- the first n words of a function
abbrev pub firsts : ℕ → (ℕ → ℕ) → List ℕ
firsts zero f = []
firsts (suc n) f = f 0 ∷ firsts n (λ i. f (suc i))
