-- Store, load, share_block_n and erase_block on the context of a channel that a list of orders has reached: what the run of the bytes that each function writes leaves.
-- From the scope, 'Operations': they "do what they name on the context of a state that orders reach under demand 3's premises, a store's own blocks and a load's own kinds counted in".
-- `store_tree`, `load_tree`, `share_block`, `erase_block` and the answers are what the contracts of the functions cite.
use Rattle.std.specs.Prelude.{ℕ, suc, ◌+◌, ◌*◌, ◌-◌, ◌≤◌, ◌<◌, ◌≡◌, ◌≢◌, true, false, List, [], ◌∷◌, ◌++◌, length, replicate, take, Ok}
use Rattle.records.specs.declared.binding.Kind.TheVariants.{Linked}
use Rattle.records.specs.declared.order.Order.TheVariants.{Store, Load}
use Rattle.records.specs.Contexts.{ext_at}
use Rattle.records.specs.ReadBack.{joined, code_bytes}
use Rattle.trees.specs.Tree.{Tree, size, flat}
use Rattle.layout.specs.declared.config.Shape.{Shape}
use Rattle.layout.specs.Config.{Supported, block_words, TEMP, HEAP, FREE, spill, positions}
use Rattle.layout.specs.Positions.{location}
use Rattle.layout.specs.Frame.{held_in, variable_in, variables_in}
use Rattle.emit.specs.Answers.{accepted}
use Rattle.memory.specs.Answered.{erase_answer, share_answer, store_tree, store_answer}
use Rattle.memory.specs.Blocks.{erase_block, share_block}
use Rattle.memory.specs.LoadAnswered.{load_tree, load_answer}
use Rattle.memory.specs.Objects.{object_sizes}
use Rattle.machine_step.specs.View.{View}
use Rattle.machine.specs.Run.{Done, ran}
use Rattle.heap.specs.Blocks.{Cell, pointers, Memory}
use Rattle.heap.specs.Claims.{Sound, Reaches}
use Rattle.heap.specs.Operations.{Elsewhere, Erase}
use Rattle.heap.specs.Orders.{HeapState}
use Rattle.heap.specs.Values as values
use Rattle.heap.specs.Values.{Values, count_of, first_of, rest_of, value_at, copies, HoldAll}
use Rattle.heap.specs.Apart.{LinksApart}
use Rattle.heap.specs.Words.{stride, word_at, memory_of, layout}
use Rattle.layout_proof.specs.Held.{NoSpill}
use Rattle.order_spec.specs.Answered.{places_in}
use Rattle.order_spec.specs.Plain.{plainly, AsStored}
use Rattle.order_spec.specs.Writes.{made}
use Rattle.channel_step.specs.Playing.{Channel}
use Rattle.soundness.specs.Claims.{Item, reached, values, acquired, PeakWithin, AllOwed, state_after, states_before, state_of, SoundAt}

-- the word at position p of a state, 2v for variable v's Fst and 2v+1 for its Snd; and the heap that its words show
abbrev pub held_at : View → ℕ → ℕ
held_at v p = held_in v.reg v.stk (location p)

-- from one state to another: the registers and spills of P, the stack's other words and the numbers of words in stack and heap are as they were
pub record Stay (g : Shape) (P : ℕ → Type 0) (v v' : View) : Type 0 where
  pub operands : (l : ℕ) → P l → held_in v'.reg v'.stk l ≡ held_in v.reg v.stk l
  pub stack : (i : ℕ) → NoSpill (spill g.spills) i → v'.stk i ≡ v.stk i
  pub depth : v'.depth ≡ v.depth
  pub size : v'.size ≡ v.size

-- the operands of the first k variables
abbrev pub FirstVariables : ℕ → ℕ → Type 0
FirstVariables k l = (p : ℕ) × (p < 2 * k) × (l ≡ location p)

module _ (g : Shape) where
  -- The bytes of a tree's records, numbered from a counter, run on a channel with their number as the step limit: the run has ended, in no more steps
  -- than there are records, has made no call, and what it leaves is as said.
  module _ (words : ℕ → ℕ) (ch : Channel) (t : Tree) (counter : ℕ) where
    abbrev pub run_of_records : Done
    run_of_records = ran (block_words g) words (joined code_bytes (flat t counter)) (size t) ch.view

    pub record RunLeaves (Left : View → Type 0) : Type 0 where
      pub steps : ℕ
      pub within : steps ≤ size t
      pub ended : run_of_records.answer ≡ Ok steps
      pub calls : run_of_records.last.calls ≡ []
      pub left : Left run_of_records.last.state

  abbrev pub heap_in : View → Memory
  heap_in v = memory_of g.fields v.mem (v.reg HEAP) (v.reg FREE)

  -- the heap's words but the first of each block
  abbrev pub FieldsStay : View → View → Type 0
  FieldsStay v v' =
      (block word : ℕ) → 0 < word → word < stride g.fields → v'.mem (word_at g.fields block word) ≡ v.mem (word_at g.fields block word)

  -- a heap that is sound for these variables, which hold their values; its frontier is a block of the heap. Beyond what the scope asks: links are told apart
  pub record SoundFor (blocks : ℕ) (M : Memory) (variables : List Cell) (vs : Values) : Type 0 where
    pub frontier : ℕ
    pub frontier_there : frontier < blocks
    pub sound : Sound (layout g.fields) M frontier (pointers variables)
    pub holds : HoldAll (object_sizes g) M.fields vs variables
    pub links : LinksApart (object_sizes g) M variables vs sound.lazy sound.held

  -- what each leaves, from a channel with the plain machine's values beside it; the states before are `past`
  module _ (blocks : ℕ) (past : List HeapState) (ch : Channel) (vs : Values) where
    -- variables v to v + n - 1 as pairs of words
    abbrev pub cells : ℕ → ℕ → List Cell
    cells v n = variables_in (ext_at ch.context) ch.view.reg ch.view.stk v n

    -- the last n variables stored: all is as after the plain machine's store, the tag being the word that the new variable's Snd then has; other variables' words stay
    pub record Stored (n : ℕ) (v : View) : Type 0 where
      pub sound : 2 * (count_of vs - n) + 1 < positions g
          → SoundAt g blocks (state_of g ch vs ∷ past) (record { context = take (8 * (count_of vs - n)) ch.context ++ made Linked (count_of vs - n); view = v }) (plainly (Store n (held_at v (2 * (count_of vs - n) + 1))) vs)
      -- of none the pointer is 0 and the heap as it was, also where the new variable has no position for a Snd
      pub none : n ≡ 0 → (held_at v (2 * count_of vs) ≡ 0) × (heap_in v ≡ heap_in ch.view)
      pub others : Stay g (FirstVariables (count_of vs - n)) ch.view v

    -- the last variable loaded, as the bindings `loaded`
    pub record Loaded (loaded : List ℕ) (v : View) : Type 0 where
      pub sound : SoundAt g blocks (state_of g ch vs ∷ past) (record { context = take (8 * (count_of vs - 1)) ch.context ++ loaded; view = v }) (plainly (Load (places_in loaded)) vs)
      pub others : Stay g (FirstVariables (count_of vs - 1)) ch.view v

    -- variable a's pointer shared n times: its block's count is n more; nothing else is other, but TEMP
    pub record Shared (a n : ℕ) (v : View) : Type 0 where
      pub counted : held_at ch.view (2 * a) ≢ 0 → (heap_in v).header (held_at ch.view (2 * a)) ≡ (heap_in ch.view).header (held_at ch.view (2 * a)) + n
      pub elsewhere : Elsewhere (held_at ch.view (2 * a)) (heap_in ch.view).header (heap_in v).header
      pub fields_kept : FieldsStay ch.view v
      pub others : Stay g (λ l. l ≢ TEMP) ch.view v
      -- the heap is sound for n copies of that variable beside all variables
      pub sound : SoundFor blocks (heap_in v) (cells 0 (count_of vs) ++ replicate n (variable_in (ext_at ch.context) ch.view.reg ch.view.stk a)) (values.appended vs (copies n (value_at a vs)))

    -- variable a's pointer erased, as in a drop of it: its block's count is one less, or the block goes onto FREE's list; nothing else is other, but TEMP
    pub record Erased (a : ℕ) (v : View) : Type 0 where
      pub erased : Erase (held_at ch.view (2 * a)) (heap_in ch.view).header (ch.view.reg FREE) (heap_in v).header (v.reg FREE)
      pub fields_kept : FieldsStay ch.view v
      pub others : Stay g (λ l. (l ≢ TEMP) × (l ≢ FREE)) ch.view v
      -- the heap is sound for the other variables
      pub sound : SoundFor blocks (heap_in v) (cells 0 a ++ cells (suc a) (count_of vs - suc a)) (values.appended (first_of a vs) (rest_of (suc a) vs))

  -- On a channel that a list has reached: each operation that its function accepts, at any counter and any room of its output. `Roomy n` says that the heap has room for
  -- a store of n variables.
  module _ (blocks : ℕ) (its : List Item) (Roomy : ℕ → Type 0) (words : ℕ → ℕ) (counter room : ℕ) where
    abbrev Ch : Channel
    Ch = reached g blocks its

    abbrev Vs : Values
    Vs = values g blocks its

    abbrev LeavesOn : Tree → ((blocks : ℕ) (past : List HeapState) (ch : Channel) (vs : Values) → View → Type 0) → Type 0
    LeavesOn t Left = RunLeaves words Ch t counter (Left blocks (states_before g blocks its) Ch Vs)

    pub record MemoryDoes : Type 0 where
      -- the last n variables
      pub stores : (n : ℕ) → Roomy n → accepted (store_answer g counter room Ch.context n) ≡ true → LeavesOn (store_tree g Ch.context n) (λ b p c vs. Stored b p c vs n)
      -- the last variable, with the kinds that its object was stored with
      pub loads : (loaded : List ℕ) → AsStored loaded (places_in loaded) (value_at (count_of Vs - 1) Vs) → accepted (load_answer g counter room loaded (take (8 * (count_of Vs - 1)) Ch.context)) ≡ true
          → LeavesOn (load_tree g loaded (take (8 * (count_of Vs - 1)) Ch.context)) (λ b p c vs. Loaded b p c vs loaded)
      -- any linked variable, by any n that is accepted
      pub shares : (a n : ℕ) → a < count_of Vs → ext_at Ch.context a ≡ false → accepted (share_answer g counter room (location (2 * a)) n) ≡ true
          → LeavesOn (share_block g (location (2 * a)) n) (λ b p c vs. Shared b p c vs a n)
      -- any linked variable
      pub erases : (a : ℕ) → a < count_of Vs → ext_at Ch.context a ≡ false → accepted (erase_answer g counter room (location (2 * a))) ≡ true
          → LeavesOn (erase_block g (location (2 * a))) (λ b p c vs. Erased b p c vs a)

-- demand 3's premises, a store's own blocks counted in: a store of some counts the blocks that the variables lead to and those that it acquires
unfoldable pub OperationsDoWhatTheyName : Type 0
OperationsDoWhatTheyName =
    (g : Shape) → Supported g → (blocks peak : ℕ) (its : List Item) → PeakWithin g blocks peak its → 2 + peak ≤ blocks → blocks ≤ 1048576 → AllOwed g blocks its
    → (words : ℕ → ℕ) (counter room : ℕ)
    → MemoryDoes g blocks its (λ n. length (object_sizes g n) ≢ 0 → (count : ℕ) → Reaches count (state_after g blocks its) → count + length (object_sizes g n) ≤ peak) words counter room

-- the same by the blocks acquired
unfoldable pub OperationsDoWhatTheyNameOnAcquired : Type 0
OperationsDoWhatTheyNameOnAcquired =
    (g : Shape) → Supported g → (blocks : ℕ) (its : List Item) → 2 + acquired g blocks its ≤ blocks → blocks ≤ 1048576 → AllOwed g blocks its
    → (words : ℕ → ℕ) (counter room : ℕ) → MemoryDoes g blocks its (λ n. 2 + (length (object_sizes g n) + acquired g blocks its) ≤ blocks) words counter room
