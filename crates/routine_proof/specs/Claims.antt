-- What the crate promises of the bytes of an accepted routine: entered with STACK at 2^40 − 8 they set up the frame, the free lists and the arguments for the body; and
-- where the body comes to the cleanup with STACK and the six saved words as they were, they return to the caller with its registers and what the body left in the others.
-- From into_routine.rs, the scope, 'Machine', and the System V AMD64 ABI: rbx, rbp and r12..r15 are registers 2, 3 and 12..15.
use Rattle.std.specs.Prelude.{ℕ, suc, ◌+◌, ◌*◌, ◌≤◌, ◌<◌, ◌≡◌, ◌≢◌, true, List, [], ◌++◌, Ok, Err}
use Rattle.records.specs.declared.code.Code.{Code}
use Rattle.records.specs.Instructions.{checked_codes}
use Rattle.records.specs.ReadBack.{Bytes}
use Rattle.emit.specs.Answers.{accepted}
use Rattle.layout.specs.declared.config.Shape.{Shape}
use Rattle.layout.specs.Config.{Supported, STACK, HEAP, FREE, stack_depth, frame_pointer, block_bytes, block_words}
use Rattle.word.specs.Words.{sum}
use Rattle.machine_step.specs.View.{View}
use Rattle.machine_step.specs.Memory.{stack_end, stack_entry, heap_ok}
use Rattle.machine_step.specs.Step.{Config}
use Rattle.machine.specs.declared.run.Stop.TheVariants.{Limit}
use Rattle.machine.specs.Run.{done, codes_of, ran, starting}
use Rattle.trees_proof.specs.Claims.{RunsTo}
use Rattle.routine.specs.Routine.{argument, head, cleanup, routine_bytes, routine_answer}

-- the registers that a function keeps for its caller, in words 1 to 6 of the stack, from its end
pub record SavedIn (stack registers : ℕ → ℕ) : Type 0 where
  pub rbx : stack 1 ≡ registers 2
  pub rbp : stack 2 ≡ registers 3
  pub r12 : stack 3 ≡ registers 12
  pub r13 : stack 4 ≡ registers 13
  pub r14 : stack 5 ≡ registers 14
  pub r15 : stack 6 ≡ registers 15

-- what the records before the body leave of the state v, with n arguments after the heap's address
pub record SetUp (G : Shape) (n : ℕ) (v : View) (d : Config) : Type 0 where
  -- the spills below the six words
  pub stack : d.state.reg STACK ≡ frame_pointer G
  -- the heap's first two blocks
  pub heap : d.state.reg HEAP ≡ v.reg (argument 0)
  pub free : d.state.reg FREE ≡ sum (v.reg (argument 0)) (block_bytes G)
  -- argument k + 1 in the Snd of variable k
  pub arguments : (k : ℕ) → k < n → d.state.reg (5 + 2 * k) ≡ v.reg (argument (suc k))
  pub saved : SavedIn d.state.stk v.reg
  -- the spills and the words below them, and the word that STACK enters at
  pub below : (i : ℕ) → 7 ≤ i → d.state.stk i ≡ v.stk i
  pub entry : d.state.stk 0 ≡ v.stk 0
  pub memory : d.state.mem ≡ v.mem
  pub size : d.state.size ≡ v.size
  pub depth : d.state.depth ≡ v.depth
  pub calls : d.calls ≡ []

-- what the cleanup leaves of the configuration b, to a caller with such registers
pub record Returned (registers : ℕ → ℕ) (b d : Config) : Type 0 where
  -- 8 more than at entry
  pub stack : d.state.reg STACK ≡ stack_end
  pub rbx : d.state.reg 2 ≡ registers 2
  pub rbp : d.state.reg 3 ≡ registers 3
  pub r12 : d.state.reg 12 ≡ registers 12
  pub r13 : d.state.reg 13 ≡ registers 13
  pub r14 : d.state.reg 14 ≡ registers 14
  pub r15 : d.state.reg 15 ≡ registers 15
  -- registers 1 and 4..11, with the result in 4
  pub others : (r : ℕ) → r < 12 → r ≢ STACK → r ≢ 2 → r ≢ 3 → d.state.reg r ≡ b.state.reg r
  pub words : d.state.stk ≡ b.state.stk
  pub memory : d.state.mem ≡ b.state.mem
  pub size : d.state.size ≡ b.state.size
  pub depth : d.state.depth ≡ b.state.depth
  pub calls : d.calls ≡ b.calls

-- the records of a routine with n arguments around a body of k records
abbrev pub routine : Shape → ℕ → ℕ → List ℕ → List Code
routine G n k body = head G n ++ (codes_of k body ++ cleanup G)

-- a run of the routine's bytes that ends at RET
pub record Returns (G : Shape) (words : ℕ → ℕ) (bytes : List ℕ) (limit : ℕ) (v : View) (b : Config) : Type 0 where
  pub steps : ℕ
  pub within : steps ≤ limit
  pub last : Config
  pub run : ran (block_words G) words bytes limit v ≡ done (Ok steps) last
  pub state : Returned v.reg b last

-- such a routine, entered in the state v
pub record Frames (G : Shape) (words : ℕ → ℕ) (n k : ℕ) (body : List ℕ) (v : View) : Type 0 where
  -- the configuration that the body starts from, at place 16 + n: a run of the routine's bytes comes to it in 16 + n steps
  pub entered : Config
  pub enters : RunsTo words (routine G n k body) (16 + n) 0 (16 + n) (starting v) entered
  pub starts : ran (block_words G) words (routine_bytes G n body) (16 + n) v ≡ done (Err (Limit (16 + n))) entered
  pub state : SetUp G n v entered
  -- if the body comes to the cleanup's place, by its end or by a jump, with STACK and the saved words as they were
  pub returns : (most : ℕ) (b : Config) → RunsTo words (routine G n k body) most (16 + n) (16 + n + k) entered b
      → b.state.reg STACK ≡ frame_pointer G → SavedIn b.state.stk v.reg
      → (limit : ℕ) → 16 + n + most + 9 ≤ limit → Returns G words (routine_bytes G n body) limit v b

-- an accepted routine, with a stack as deep as its frame asks, beside a heap that the machine takes
unfoldable pub RoutineReturns : Type 0
RoutineReturns =
    (G : Shape) → Supported G → (words : ℕ → ℕ) (room n k : ℕ) (body : List ℕ) (v : View) → Bytes body → accepted (routine_answer G room n body) ≡ true
    → checked_codes 65506 body ≡ Ok k → v.reg STACK ≡ stack_entry → v.depth ≡ stack_depth G → heap_ok (block_words G) v.size ≡ true → Frames G words n k body v
