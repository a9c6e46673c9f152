-- One order played on a channel: what it is answered, the run of its records, and the channel after it. From the scope, 'Order record' and 'Machine'.
-- `answer_to`, `order_records` and `order_context` are what the contract of the order function cites, and `ran` is what the contract of the machine's run cites.
use Rattle.layout.specs.declared.config.Unshaped.{Unshaped}
use Rattle.std.specs.Prelude.{ℕ, ◌*◌, ◌≡◌, Bool, cond, List, [], length, replicate, take, Err, Ok, Result}
use Rattle.records.specs.Answers.{AnswersBy}
use Rattle.trees.specs.Tree.{size}
use Rattle.layout.specs.declared.config.Shape.{Shape}
use Rattle.layout.specs.declared.config.Unshaped.TheVariants.{NoFrame, NoEdition}
use Rattle.layout.specs.Config.{shape_of, most_variables, stack_depth, block_words}
use Rattle.machine_step.specs.View.{View, view}
use Rattle.machine.specs.State.{see, fresh_state}
use Rattle.machine.specs.Run.{Done, ran, RunAnswer}
use Rattle.machine.specs.Run as machine
use Rattle.order_spec.specs.declared.answer.OrderRefusal.TheVariants.{Edition}
use Rattle.order_spec.specs.Answered.{Asked, order_answer_cause, order_accepted, order_tree, order_context, answer_to, unframed_order, order_records, records_output, OrderAnswer}
use Rattle.order.specs.Answers as orders
use Rattle.channel_step.specs.declared.channel.Channel as code

-- the context that was answered last, and the registers, stack and heap that the last run left
pub record Channel : Type 0 where
  pub context : List ℕ
  pub view : View

-- orders in a shape of blocks and frame
module _ (g : Shape) where
  -- the fresh routine, on a zeroed heap of so many blocks
  abbrev pub fresh : ℕ → Channel
  fresh blocks = record { context = []; view = see (fresh_state g) (replicate (block_words g * blocks) 0) }

  abbrev pub is_accepted : Channel → Asked → Bool
  is_accepted ch q = order_accepted (answer_to g ch.context q)

  -- how many records an order has, and their run with that number as the step limit; `words` are what print calls leave
  abbrev pub record_count : Channel → Asked → ℕ
  record_count ch q = size (order_tree g ch.context q)

  abbrev pub run_of : Channel → Asked → (ℕ → ℕ) → Done
  run_of ch q words = ran (block_words g) words (order_records g ch.context q) (record_count ch q) ch.view

  -- an accepted order's context and what its run leaves; a refused order leaves all as it was
  abbrev pub next : Channel → Asked → (ℕ → ℕ) → Channel
  next ch q words = cond (is_accepted ch q) (record { context = order_context ch.context q; view = (run_of ch q words).last.state }) ch

  -- how an accepted order's run ended; a refused order makes no step
  abbrev pub ends : Channel → Asked → (ℕ → ℕ) → RunAnswer
  ends ch q words = cond (is_accepted ch q) (run_of ch q words).answer (Ok 0)

-- the channel of the program's words in a shape: the context's bytes in use, and the registers and the frame's part of the stack beside the lent heap
abbrev pub channel_of : Shape → code.Channel → List ℕ → Channel
channel_of g c heap = record { context = take c.used c.context; view = view c.registers (take (stack_depth g) c.stack) heap }

-- the shape of its edition and frame
abbrev pub shape_in : code.Channel → Result Shape Unshaped
shape_in c = shape_of c.edition c.frame

-- the words with which a list of orders starts in an edition and a frame, on a zeroed heap of any number of blocks; where there is no such edition or frame any
-- will do, since every order is refused there
pub record Starts (edition frame : ℕ) (c : code.Channel) : Type 0 where
  pub edition_is : c.edition ≡ edition
  pub frame_is : c.frame ≡ frame
  pub starts : (g : Shape) → shape_of edition frame ≡ Ok g → (blocks : ℕ) → channel_of g c (replicate (block_words g * blocks) 0) ≡ fresh g blocks

-- what goes in with an order: the bindings of as many variables as have both positions are all the context that orders can reach
abbrev pub asking_on : Shape → List ℕ → List ℕ → ℕ → List ℕ → Asked
asking_on g order bindings counter records =
    record { order = order; bindings = bindings; counter = counter; records_room = length records; context_room = 8 * most_variables g }

-- an order q on a channel: the channel after it, its answer, how its run ended, and the records' output o as it becomes
pub record Plays (g : Shape) (ch : Channel) (q : Asked) (words : ℕ → ℕ) (ch' : Channel) (r : OrderAnswer) (a : RunAnswer) (o o' : List ℕ) : Type 0 where
  pub channel : ch' ≡ next g ch q words
  pub answer : AnswersBy order_answer_cause r (answer_to g ch.context q)
  pub ran : AnswersBy machine.run_cause a (ends g ch q words)
  pub records : o' ≡ records_output g ch.context q o

-- an order that is answered so, and all stays as it was
pub record Stays (c : code.Channel) (expected : OrderAnswer) (c' : code.Channel) (heap heap' : List ℕ) (r : OrderAnswer) (a : RunAnswer) (o o' : List ℕ) : Type 0 where
  pub answer : AnswersBy order_answer_cause r expected
  pub channel : c' ≡ c
  pub heap_kept : heap' ≡ heap
  pub ran : AnswersBy machine.run_cause a (Ok 0)
  pub records : o' ≡ o

-- where there is no such frame an order is answered 15 to 17, 2 or 3
abbrev pub unframed_on : code.Channel → Asked → OrderAnswer
unframed_on c q = unframed_order (take c.used c.context) q

-- a channel has one edition and one frame throughout
pub record SameShape (c c' : code.Channel) : Type 0 where
  pub edition : c'.edition ≡ c.edition
  pub frame : c'.frame ≡ c.frame

-- an order's bytes and its bindings' on the program's words, by the channel's edition and frame
pub record PlaysIn (c : code.Channel) (order bindings : List ℕ) (counter : ℕ) (words : ℕ → ℕ) (c' : code.Channel) (heap heap' : List ℕ) (r : OrderAnswer) (a : RunAnswer) (o o' : List ℕ) : Type 0 where
  pub same_shape : SameShape c c'
  pub known : (g : Shape) → shape_in c ≡ Ok g → Plays g (channel_of g c heap) (asking_on g order bindings counter o) words (channel_of g c' heap') r a o o'
  pub no_frame : shape_in c ≡ Err NoFrame → Stays c (unframed_on c (orders.asking order bindings counter o [])) c' heap heap' r a o o'
  pub no_edition : shape_in c ≡ Err NoEdition → Stays c (Err Edition) c' heap heap' r a o o'
