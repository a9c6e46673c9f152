-- Demand 2: records written are read back the same. What every operation, store, load, erase_block, share_block_n, print_i64, routine and order writes when it is
-- accepted is well formed, so that the check accepts its bytes, reading gives each record back, and a run of the bytes is the run of the records.
-- The records and the answers are those that the contracts of the functions cite. And demand 3's first state is what the bytes before a routine's body leave. All of it in every
-- supported shape.
use Rattle.std.specs.Prelude.{ℕ, ◌^◌, ◌≤◌, ◌<◌, ◌≡◌, Bool, true, List, [], ◌++◌, length, get_or, Some, Ok}
use Rattle.records.specs.declared.code.Code.{Code}
use Rattle.records.specs.declared.code.Code.TheVariants.{RET}
use Rattle.records.specs.Contexts.{checked_context}
use Rattle.records.specs.Instructions.{checked_codes, code_at}
use Rattle.records.specs.ReadBack.{Each, Bytes, WellFormedCode, joined, items, code_bytes, code_in}
use Rattle.trees.specs.Tree.{flat}
use Rattle.emit.specs.Answers.{accepted}
use Rattle.layout.specs.declared.config.Shape.{Shape}
use Rattle.layout.specs.Config.{Supported, block_words, stack_depth}
use Rattle.operations.specs.declared.operation.Operation.{Operation}
use Rattle.operations.specs.declared.operation.Operation.TheVariants.{Label, Jump, JumpLabel, JumpLabelFixed, JumpLabelIf, JumpLabelIfZero, LoadImmediate, LoadLabel, AddAndJump, Arithmetic, Mov, Compare, CompareImmediate}
use Rattle.operations.specs.Operations.{operation_records, operation_answer}
use Rattle.memory.specs.Answered.{erase_answer, share_answer, store_tree, store_answer}
use Rattle.memory.specs.Blocks.{erase_block, share_block}
use Rattle.memory.specs.LoadAnswered.{load_tree, load_answer}
use Rattle.print_i64.specs.Print.{print_answer, print_records}
use Rattle.routine.specs.Routine.{head, cleanup, routine_bytes, routine_answer}
use Rattle.machine_step.specs.View.{View, words_of}
use Rattle.machine_step.specs.Memory.{heap_ok}
use Rattle.machine.specs.Run.{Done, ran, started}
use Rattle.machine.specs.State.{see, entry_state, fresh_state, firsts}
use Rattle.order_spec.specs.Answered as order
use Rattle.order_spec.specs.Answered.{Asked, order_tree, answer_to}

-- records that are read back
pub record Readable (cs : List Code) : Type 0 where
  pub formed : Each WellFormedCode cs
  -- they are no more than the machine takes, and the check accepts their bytes
  pub few : length cs ≤ 65536
  pub checks : checked_codes 65536 (joined code_bytes cs) ≡ Ok (length cs)
  -- each is read at its place, whatever follows; and all are
  pub reads : (rest : List ℕ) (k : ℕ) → k < length cs → code_at (joined code_bytes cs ++ rest) k ≡ Some (get_or cs k RET)
  pub all : items 24 code_in (length cs) (joined code_bytes cs) ≡ cs
  -- a run of the bytes is the run of the records, however many words a block has
  pub runs : (block : ℕ) (words : ℕ → ℕ) (limit : ℕ) (v : View) → heap_ok block v.size ≡ true
      → ran block words (joined code_bytes cs) limit v ≡ started words cs limit v

-- what the types of an operation's fields say: labels of 32 bits, immediates of 64
abbrev pub OperationFits : Operation → Type 0
OperationFits (Label l) = l < 2 ^ 32
OperationFits (Jump w) = Unit {0}
OperationFits (JumpLabel l) = l < 2 ^ 32
OperationFits (JumpLabelFixed l) = l < 2 ^ 32
OperationFits (JumpLabelIf k x y l) = l < 2 ^ 32
OperationFits (JumpLabelIfZero k w l) = l < 2 ^ 32
OperationFits (LoadImmediate w value) = value < 2 ^ 64
OperationFits (LoadLabel w l) = l < 2 ^ 32
OperationFits (AddAndJump w value) = value < 2 ^ 64
OperationFits (Arithmetic o w x y) = Unit {0}
OperationFits (Mov w x) = Unit {0}
OperationFits (Compare x y) = Unit {0}
OperationFits (CompareImmediate w value) = value < 2 ^ 64

-- a routine's bytes are those of its records, the body's as it was given, and they are read back; so it has at most 65,536 records, which the machine takes (`few`)
pub record RoutineReads (G : Shape) (n : ℕ) (body : List ℕ) : Type 0 where
  pub count : ℕ
  pub of_body : checked_codes 65506 body ≡ Ok count
  pub bytes : routine_bytes G n body ≡ joined code_bytes (head G n ++ (items 24 code_in count body ++ cleanup G))
  pub read : Readable (head G n ++ (items 24 code_in count body ++ cleanup G))

pub record WrittenIsRead : Type 0 where
  -- what several operations write together, and any other list
  pub lists : (cs : List Code) → Each WellFormedCode cs → length cs ≤ 65536 → Readable cs
  pub operations : (G : Shape) → Supported G → (o : Operation) (room : ℕ) → OperationFits o → accepted (operation_answer G room o) ≡ true → Readable (operation_records G o)
  pub stores : (G : Shape) → Supported G → (counter room : ℕ) (context : List ℕ) (n : ℕ) → accepted (store_answer G counter room context n) ≡ true
      → Readable (flat (store_tree G context n) counter)
  pub loads : (G : Shape) → Supported G → (counter room : ℕ) (loaded existing : List ℕ) → accepted (load_answer G counter room loaded existing) ≡ true
      → Readable (flat (load_tree G loaded existing) counter)
  pub erases : (G : Shape) → Supported G → (counter room w : ℕ) → accepted (erase_answer G counter room w) ≡ true → Readable (flat (erase_block G w) counter)
  pub shares : (G : Shape) → Supported G → (counter room w n : ℕ) → accepted (share_answer G counter room w n) ≡ true → Readable (flat (share_block G w n) counter)
  pub prints : (G : Shape) → Supported G → (room : ℕ) (newline : Bool) (w : ℕ) (context : List ℕ)
      → accepted (print_answer G room newline w context (checked_context context)) ≡ true
      → Readable (print_records G newline w context (checked_context context))
  pub orders : (G : Shape) → Supported G → (context : List ℕ) (q : Asked) → Bytes q.order → order.order_accepted (answer_to G context q) ≡ true
      → Readable (flat (order_tree G context q) q.counter)
  pub routines : (G : Shape) → Supported G → (room n : ℕ) (body : List ℕ) → Bytes body → accepted (routine_answer G room n body) ≡ true → RoutineReads G n body

-- what a run from the entry state beside the heap H leaves: the fresh state, and the heap as it was
pub record LeavesFresh (G : Shape) (H : List ℕ) (d : Done) : Type 0 where
  pub ended : d.answer ≡ Ok 16
  pub calls : d.last.calls ≡ []
  pub registers : firsts 16 d.last.state.reg ≡ (fresh_state G).registers
  pub stack : firsts (stack_depth G) d.last.state.stk ≡ (fresh_state G).stack
  pub heap : d.last.state.mem ≡ words_of H
  pub depth : d.last.state.depth ≡ stack_depth G
  pub size : d.last.state.size ≡ length H

-- the bytes of the records before the body of a routine with no argument, beside any heap that the machine takes
unfoldable pub FreshFollowsBytes : Type 0
FreshFollowsBytes =
    (G : Shape) → Supported G → (words : ℕ → ℕ) (H : List ℕ) → heap_ok (block_words G) (length H) ≡ true
    → LeavesFresh G H (ran (block_words G) words (joined code_bytes (head G 0)) 16 (see (entry_state G) H))
