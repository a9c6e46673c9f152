-- Demand 3: the heap stays sound for every list of orders, in every supported shape of blocks and frame. One claim on the whole list; this file and the definitions it cites are all that it says.
-- `fresh` and what an item does to a channel are what the contracts of `channel_step::channel` cite.
-- From the scope, 'Order record', 'Plain machine of demand 3' and 'Blocks and objects'.
use Rattle.std.specs.Prelude.{ℕ, ◌+◌, ◌*◌, ◌≤◌, ◌<◌, ◌≡◌, ◌≢◌, Bool, true, false, ◌&&◌, cond, List, [], ◌∷◌, length, Ok}
use Rattle.records.specs.declared.order.Order.{Order}
use Rattle.records.specs.declared.order.Order.TheVariants.{Put, Compute, Copy, Drop, Store, Load, Print}
use Rattle.records.specs.Contexts.{checked_context, ext_at}
use Rattle.records.specs.ReadBack.{Bytes}
use Rattle.layout.specs.declared.config.Shape.{Shape}
use Rattle.layout.specs.Config.{Supported, stack_depth, block_words, STACK, HEAP, FREE}
use Rattle.layout.specs.Frame.{variables_in}
use Rattle.print_i64.specs.Print.{print_name}
use Rattle.machine_step.specs.Step.{Call}
use Rattle.heap.specs.Values.{Values, nil, count_of, value_at, KindsFrom}
use Rattle.heap.specs.Words.{memory_of, layout}
use Rattle.heap.specs.Orders.{HeapState}
use Rattle.heap.specs.Claims.{HeapAfter, Reaches}
use Rattle.memory.specs.Objects.{object_sizes}
use Rattle.order_spec.specs.Answered.{Asked, order_is, places_in, answer_to, records_output, context_output, order_counter_after}
use Rattle.order_spec.specs.Plain.{integer_of, plainly, OwedKinds, OwedResult}
use Rattle.channel_step.specs.Playing.{Channel, fresh, is_accepted, record_count, run_of, next}

-- one item of a list: any bytes as order and bindings, any counter and output lengths, any nine words
pub record Item : Type 0 where
  pub asked : Asked
  pub bytes_of_order : Bytes asked.order
  pub bindings_bytes : Bytes asked.bindings
  pub words : ℕ → ℕ

-- what the user owes an accepted order: a load's own kinds, and no division fault
abbrev pub Owed : List ℕ → Order → Values → Type 0
Owed bindings o vs = OwedKinds bindings o vs × OwedResult o vs

-- the print calls that an order makes: the name its flag gives, with the variable's integer in register 7
abbrev pub calls_of : Order → Values → List Call
calls_of (Put value) vs = []
calls_of (Compute operation a b) vs = []
calls_of (Copy a n) vs = []
calls_of Drop vs = []
calls_of (Store n tag) vs = []
calls_of (Load n) vs = []
calls_of (Print newline a) vs = record { name = print_name newline; number = integer_of (value_at a vs) } ∷ []

-- whether an order can change variables or heap
abbrev pub changes : Order → Bool
changes (Put value) = true
changes (Compute operation a b) = true
changes (Copy a n) = true
changes Drop = true
changes (Store n tag) = true
changes (Load n) = true
changes (Print newline a) = false

module _ (g : Shape) where
  -- the blocks that an order acquires
  abbrev pub acquires : Order → ℕ
  acquires (Put value) = 0
  acquires (Compute operation a b) = 0
  acquires (Copy a n) = 0
  acquires Drop = 0
  acquires (Store n tag) = length (object_sizes g n)
  acquires (Load n) = 0
  acquires (Print newline a) = 0

  -- how an accepted order's run came out: it ended, in no more steps than it has records, and made the order's calls
  pub record Ran (ch : Channel) (vs : Values) (it : Item) : Type 0 where
    pub steps : ℕ
    pub within : steps ≤ record_count g ch it.asked
    pub ended : (run_of g ch it.asked it.words).answer ≡ Ok steps
    pub calls : (run_of g ch it.asked it.words).last.calls ≡ calls_of (order_is it.asked) vs

  -- the heap that a channel's words show, HEAP and FREE, and its variables as pairs of words, beside values
  abbrev pub state_of : Channel → Values → HeapState
  state_of ch vs =
      record {
        memory = memory_of g.fields ch.view.mem (ch.view.reg HEAP) (ch.view.reg FREE);
        variables = variables_in (ext_at ch.context) ch.view.reg ch.view.stk 0 (places_in ch.context);
        values = vs;
      }

  -- what holds of a channel beside the plain machine's values, on a heap of so many blocks, with the states before
  pub record SoundAt (blocks : ℕ) (past : List HeapState) (ch : Channel) (vs : Values) : Type 0 where
    -- the context has the values' kinds, in sequence
    pub places : checked_context ch.context ≡ Ok (count_of vs)
    pub kinds : KindsFrom (ext_at ch.context) 0 vs
    -- every variable holds its value; each block below the frontier is in exactly one of linear list, lazy list and held; held is what pointers reach;
    -- a held block's count is its pointers less one; the frontier ends FREE's chain and is the first block never held or on HEAP's list
    pub heap : HeapAfter (object_sizes g) (layout g.fields) past (state_of ch vs)
    -- and there is such a block
    pub frontier_there : heap.frontier < blocks
    -- the lent heap is those blocks
    pub whole : ch.view.size ≡ block_words g * blocks
    -- STACK is where the setup left it, so that each spill is where `stack_offset` says, on the whole stack
    pub stack_whole : ch.view.depth ≡ stack_depth g
    pub stack_there : ch.view.reg STACK ≡ (fresh g blocks).view.reg STACK

  -- A refused order leaves the channel, its two outputs, whatever they held, and the counter as they were: by the definitions that the contracts of
  -- `channel_step::channel::play`, of the order function and of the library's order cite.
  pub record Refused (ch : Channel) (it : Item) : Type 0 where
    pub channel_kept : next g ch it.asked it.words ≡ ch
    pub records_kept : (o : List ℕ) → records_output g ch.context it.asked o ≡ o
    pub context_kept : (o : List ℕ) → context_output g ch.context it.asked o ≡ o
    pub counter_kept : order_counter_after it.asked.counter (answer_to g ch.context it.asked) ≡ it.asked.counter

  -- lists of items have the newest first
  module _ (blocks : ℕ) where
    -- the channel after a list
    abbrev pub reached : List Item → Channel
    reached [] = fresh g blocks
    reached (it ∷ its) = next g (reached its) it.asked it.words

    -- the plain machine's values after a list: it is fed the accepted orders
    abbrev pub values : List Item → Values
    values [] = nil
    values (it ∷ its) = cond (is_accepted g (reached its) it.asked) (plainly (order_is it.asked) (values its)) (values its)

    abbrev pub state_after : List Item → HeapState
    state_after its = state_of (reached its) (values its)

    -- what the user owes each accepted order
    abbrev pub AllOwed : List Item → Type 0
    AllOwed [] = Unit {0}
    AllOwed (it ∷ its) = (is_accepted g (reached its) it.asked ≡ true → Owed it.asked.bindings (order_is it.asked) (values its)) × AllOwed its

    -- The peak is at most so many blocks: each accepted store of some counts the blocks that the variables lead to before it and those that it acquires,
    -- whether or not its run ends. The variables lead to one number of blocks (`HeapBeyond.reachable-unique`).
    abbrev pub PeakWithin : ℕ → List Item → Type 0
    PeakWithin peak [] = Unit {0}
    PeakWithin peak (it ∷ its) =
        (is_accepted g (reached its) it.asked ≡ true → acquires (order_is it.asked) ≢ 0 → (count : ℕ) → Reaches count (state_after its) → count + acquires (order_is it.asked) ≤ peak) × PeakWithin peak its

    -- the blocks that the accepted orders acquire
    abbrev pub acquired : List Item → ℕ
    acquired [] = 0
    acquired (it ∷ its) = cond (is_accepted g (reached its) it.asked) (acquires (order_is it.asked)) 0 + acquired its

    -- the states before, newest first; refused orders and prints leave the state as it was, so it stands once
    abbrev pub states_before : List Item → List HeapState
    states_before [] = []
    states_before (it ∷ its) = cond (is_accepted g (reached its) it.asked && changes (order_is it.asked)) (state_after its ∷ states_before its) (states_before its)

    -- what holds of the channel after a list
    abbrev pub SoundChannel : List Item → Type 0
    SoundChannel its = SoundAt blocks (states_before its) (reached its) (values its)

    -- and after every beginning of it
    abbrev pub SoundBefore : List Item → Type 0
    SoundBefore [] = Unit {0}
    SoundBefore (it ∷ its) = SoundChannel its × SoundBefore its

    -- each accepted order's run
    abbrev pub AllRan : List Item → Type 0
    AllRan [] = Unit {0}
    AllRan (it ∷ its) = (is_accepted g (reached its) it.asked ≡ true → Ran (reached its) (values its) it) × AllRan its

    -- each refused order changed nothing
    abbrev pub AllRefused : List Item → Type 0
    AllRefused [] = Unit {0}
    AllRefused (it ∷ its) = (is_accepted g (reached its) it.asked ≡ false → Refused (reached its) it) × AllRefused its

    pub record After (its : List Item) : Type 0 where
      pub sound : SoundChannel its
      pub sound_before : SoundBefore its
      pub ran : AllRan its
      pub refused : AllRefused its

  -- after every list of items, on at least two blocks more than the peak
  abbrev pub StaysSound : Type 0
  StaysSound = (blocks peak : ℕ) (its : List Item) → PeakWithin blocks peak its → 2 + peak ≤ blocks → blocks ≤ 1048576 → AllOwed blocks its → After blocks its

  -- on at least two blocks more than the accepted orders acquire: more blocks, and nothing to know of what is reachable
  abbrev pub StaysSoundOnAcquired : Type 0
  StaysSoundOnAcquired = (blocks : ℕ) (its : List Item) → 2 + acquired blocks its ≤ blocks → blocks ≤ 1048576 → AllOwed blocks its → After blocks its

-- in every supported shape
unfoldable pub HeapStaysSound : Type 0
HeapStaysSound = (g : Shape) → Supported g → StaysSound g

unfoldable pub HeapStaysSoundOnAcquired : Type 0
HeapStaysSoundOnAcquired = (g : Shape) → Supported g → StaysSoundOnAcquired g
