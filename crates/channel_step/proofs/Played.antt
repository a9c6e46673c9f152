-- From an order's answer, its two outputs and its records' run to what playing it leaves.
use Rattle.layout.specs.declared.config.Unshaped.{Unshaped}
use Rattle.std.specs.Prelude.{Err, Ok, Result}
use Prim.Native.Nat.{ℕ, zero, suc, ◌*◌, ◌≤◌, min}
use mathlib.Core.Path.{◌≡◌, refl, sym, ap, ◌∙◌, subst}
use mathlib.Core.Bool.{true, false}
use mathlib.Core.List.{List, [], ◌∷◌, ◌++◌}
use native.Mathlib.Omega.{arith}
use lib.ListN.{length, replicate, take, length-replicate}
use lib.Seq.{sets, sets-eq, take_at, take-append-le, length-take-le, length-sets}
use Rattle.records.specs.Contexts.{checked_context, bindings_in}
use Rattle.records.specs.ReadBack.{joined, code_bytes}
use Rattle.records.proofs.Answers.{answers_by}
use Rattle.records.proofs.CodesBack.{code_laws}
use Rattle.records.proofs.Joined.{joined_length}
use Rattle.records.proofs.ContextsRead.{context_long}
use Rattle.trees.specs.Tree.{Tree, size, flat}
use Rattle.trees.proofs.Flat.{length_flat}
use Rattle.layout.specs.declared.config.Shape.{Shape}
use Rattle.layout.specs.declared.config.Unshaped.TheVariants.{NoFrame, NoEdition}
use Rattle.layout.specs.Config.{Supported, larger, most_variables, stack_depth, block_words}
use Rattle.machine_step.specs.View.{View, view}
use Rattle.machine.specs.State.{fresh_registers}
use Rattle.machine.specs.Run.{Done, ran, Leaves, RunAnswer}
use Rattle.order_spec.specs.declared.answer.OrderRefusal.TheVariants.{Edition}
use Rattle.order_spec.specs.Writes.{tree_of, context_after}
use Rattle.order_spec.specs.Answered.{Asked, order_accepted, order_is, order_tree, order_context, answer_to, unframed_order, order_records, accepted_with, OrderAnswer}
use Rattle.order_spec.proofs.Accepting.{good_context, taken}
use Rattle.order_check.proofs.Leaving.{after_long}
use Rattle.order.specs.Answers.{AnswersOrder}
use Rattle.order.specs.Answers as orders
use Rattle.std.proofs.lemmas.List.{take_min}
use Rattle.channel_step.specs.declared.channel.Channel as code
use Rattle.channel_step.specs.Playing.{Channel, fresh, is_accepted, channel_of, shape_in, asking_on, Plays, Stays, unframed_on, SameShape, PlaysIn}

-- an edition and a frame have one shape, or none for one cause
pub same_shape : {f : Result Shape Unshaped} {g h : Shape} → f ≡ Ok g → f ≡ Ok h → g ≡ h
same_shape e k = cc

module _ {A : Type 0} {f : Result Shape Unshaped} where
  pub not_shaped : {g : Shape} {none : Unshaped} → f ≡ Err none → f ≡ Ok g → A
  not_shaped e k = let z : ◌≡◌ {A = ℕ} 0 1 = cc in absurd (omega arith)

  pub one_cause : f ≡ Err NoFrame → f ≡ Err NoEdition → A
  one_cause e k = let z : ◌≡◌ {A = ℕ} 0 1 = cc in absurd (omega arith)

-- what is taken of equal words
take_replicate : (n m x : ℕ) → n ≤ m → take n (replicate m x) ≡ replicate n x
take_replicate zero m x h = refl
take_replicate (suc n) zero x h = absurd (omega arith)
take_replicate (suc n) (suc m) x h = ap (λ (l : List ℕ). x ∷ l) (take_replicate n m x (omega arith))

-- what a frame asks of the largest one's stack, and of its room for a context
module _ (g : Shape) (u : Supported g) where
  pub depth_there : stack_depth g ≤ stack_depth larger
  depth_there = omega (arith, u.frame)

  pub room_there : 8 * most_variables g ≤ 8 * most_variables larger
  room_there = omega (arith, u.frame)

  pub its_room : length {A = ℕ} (take (8 * most_variables g) (replicate (8 * most_variables larger) 0)) ≡ 8 * most_variables g
  its_room = rw (take_replicate (8 * most_variables g) (8 * most_variables larger) 0 room_there) (length-replicate (8 * most_variables g) 0)

  pub its_stack : (S : List ℕ) → length S ≡ stack_depth larger → length (take (stack_depth g) S) ≡ stack_depth g
  its_stack S l = length-take-le (stack_depth g) S (omega (arith, depth_there))

  -- a channel as it starts
  pub starts_so : {R : List ℕ} → R ≡ fresh_registers g → (blocks : ℕ)
      → record { context = []; view = view R (take (stack_depth g) (replicate (stack_depth larger) 0)) (replicate (block_words g * blocks) 0) } ≡ fresh g blocks
  starts_so e blocks = rw (e, take_replicate (stack_depth g) (stack_depth larger) 0 depth_there)

-- the bytes in use of a context, however many its used ones are said to be
pub in_use : {f : Result Shape Unshaped} {q : Asked} {r : OrderAnswer} {o o' a a' : List ℕ} (s : List ℕ) (used : ℕ) {end : ℕ} → end ≡ min used (length s) → AnswersOrder f (take end s) q r o o' a a' → AnswersOrder f (take used s) q r o o' a a'
in_use s used e w = rw (ap (λ (n : ℕ). take n s) e ∙ take_min used s) at w

-- what an accepted answer counts, where the context has k variables
pub record CountedAt (g : Shape) (context : List ℕ) (q : Asked) (n m k : ℕ) : Type 0 where
  pub records : n ≡ size (tree_of g context k q.bindings (order_is q))
  pub records_fit : 24 * n ≤ q.records_room
  pub bindings : 8 * m ≡ length (context_after context k q.bindings (order_is q))
  pub context_fits : 8 * m ≤ q.context_room

abbrev records_in : OrderAnswer → ℕ
records_in (Ok accepted) = accepted.records
records_in (Err refusal) = 0

abbrev bindings_after : OrderAnswer → ℕ
bindings_after (Ok accepted) = accepted.bindings
bindings_after (Err refusal) = 0

pub counted : (g : Shape) (context : List ℕ) (q : Asked) {n d m : ℕ} → answer_to g context q ≡ Ok (accepted_with n d m) → CountedAt g context q n m (bindings_in (checked_context context))
counted g context q {n} {d} {m} e =
    let yes : order_accepted (answer_to g context q) ≡ true = ap order_accepted e in
    let u = good_context g context q yes in
    let w = taken g context q u.0 u.1 yes in
    let long = after_long context u.0 q.bindings (order_is q) (context_long context u.0 u.1) (context_long q.bindings _ w.bindings_good) in
    let f = ap records_in (sym e ∙ w.answer) in
    let l = ap bindings_after (sym e ∙ w.answer) in
    let r = w.records_fit in
    let c = w.context_fits in
    subst (λ (k : ℕ). CountedAt g context q n m k) (sym (ap bindings_in u.1))
    (record { records = f; records_fit = omega arith; bindings = omega arith; context_fits = omega arith })

-- a list written from an output's start is what the output starts with
start_of : (o s : List ℕ) (n : ℕ) → length s ≡ n → n ≤ length o → take n (sets o 0 s) ≡ s
start_of o s n e h = rw (sets-eq s o 0 (omega arith)) (take_at s _ n e)

records_long : (t : Tree) (c : ℕ) → length (joined code_bytes (flat t c)) ≡ 24 * size t
records_long t c = omega (arith, joined_length code_laws (flat t c), length_flat t c 0)

module _ {g : Shape} (ch : Channel) (q : Asked) (words : ℕ → ℕ) {r : OrderAnswer} {o o' a a' : List ℕ} (s : AnswersOrder (Ok g) ch.context q r o o' a a') where
  pub refused_plays : order_accepted r ≡ false → Plays g ch q words ch r (Ok 0) o o'
  refused_plays f =
      let e : is_accepted g ch q ≡ false = ap order_accepted (sym s.answer) ∙ f in
      record { channel = rw e; answer = answers_by s.answer; ran = answers_by (rw e); records = s.records }

  module _ {n d m : ℕ} (e : r ≡ Ok (accepted_with n d m)) (l : length o ≡ q.records_room) where
    counts : CountedAt g ch.context q n m (bindings_in (checked_context ch.context))
    counts = counted g ch.context q (sym s.answer ∙ e)

    yes : is_accepted g ch q ≡ true
    yes = ap order_accepted (sym s.answer ∙ e)

    pub records_there : 24 * n ≤ length o'
    records_there =
        let w = counts.records_fit in
        rw (s.records, yes, length-sets) (omega arith)

    pub bindings_there : 8 * m ≤ q.context_room
    bindings_there = counts.context_fits

    pub accepted_plays : length a ≡ q.context_room → {x : RunAnswer} {v : View} → Leaves x v (ran (block_words g) words (take (24 * n) o') n ch.view)
        → Plays g ch q words (record { context = take (8 * m) a'; view = v }) (Ok (accepted_with n d m)) x o o'
    accepted_plays k w =
        let c = counts in
        let records : take (24 * n) o' ≡ order_records g ch.context q =
        ap (take (24 * n)) (s.records ∙ rw yes) ∙ start_of o (order_records g ch.context q) (24 * n) (omega (arith, records_long (order_tree g ch.context q) q.counter, c.records)) (omega (arith, c.records_fit)) in
        let after : take (8 * m) a' ≡ order_context ch.context q =
        ap (take (8 * m)) (s.after ∙ rw yes) ∙ start_of a (order_context ch.context q) (8 * m) (sym c.bindings) (omega (arith, c.context_fits)) in
        let runs : ran (block_words g) words (take (24 * n) o') n ch.view ≡ ran (block_words g) words (order_records g ch.context q) (size (order_tree g ch.context q)) ch.view =
        rw (records, c.records) in
        record {
          channel = rw (yes, after, w.last, runs);
          answer = answers_by (sym e ∙ s.answer);
          ran = answers_by (rw yes (w.answer ∙ ap (λ (z : Done). z.answer) runs));
          records = s.records;
        }

    -- the same where the outputs are the first parts of a longer context and stack
    pub accepted_plays_on : length a ≡ q.context_room → (context stack : List ℕ) {x : RunAnswer} (R S H : List ℕ) → length S ≡ stack_depth g
        → Leaves x (view R S H) (ran (block_words g) words (take (24 * n) o') n ch.view)
        → Plays g ch q words (record { context = take (8 * m) (a' ++ context); view = view R (take (stack_depth g) (S ++ stack)) H }) (Ok (accepted_with n d m)) x o o'
    accepted_plays_on k context stack R S H h w =
        let long : length a' ≡ length a = rw (s.after, yes, length-sets) in
        rw (take-append-le (8 * m) a' context (omega (arith, long, k, bindings_there)), take_at S stack (stack_depth g) h) (accepted_plays k w)

-- the room of a frame
pub in_shape_lem : {f : Result Shape Unshaped} {g : Shape} {context order bindings : List ℕ} {counter : ℕ} {r : OrderAnswer} {o o' a a' : List ℕ} → f ≡ Ok g → length a ≡ 8 * most_variables g
    → AnswersOrder f context (orders.asking order bindings counter o a) r o o' a a' → AnswersOrder (Ok g) context (asking_on g order bindings counter o) r o o' a a'
in_shape_lem e l w = rw (e, l) at w

-- an edition and a frame are kept
same_channel : {c c' : code.Channel} → c' ≡ c → SameShape c c'
same_channel e = record { edition = ap (λ (z : code.Channel). z.edition) e; frame = ap (λ (z : code.Channel). z.frame) e }

-- by the channel's edition and frame
module _ {c : code.Channel} {order bindings : List ℕ} {counter : ℕ} {r : OrderAnswer} {o o' : List ℕ} where
  -- what the answer leaves where there is no such frame, whatever room is lent for the context
  pub refused_stays : {a a' : List ℕ} → shape_in c ≡ Err NoFrame → AnswersOrder (shape_in c) (take c.used c.context) (orders.asking order bindings counter o a) r o o' a a'
      → (heap : List ℕ) → Stays c (unframed_on c (orders.asking order bindings counter o [])) c heap heap r (Ok 0) o o'
  unfolding unframed_order
  refused_stays e w heap =
      let s = rw e at w in
      record { answer = answers_by s.answer; channel = refl; heap_kept = refl; ran = answers_by refl; records = s.records }

  module _ {c' : code.Channel} {words : ℕ → ℕ} {heap heap' : List ℕ} {x : RunAnswer} where
    pub plays_known : {g : Shape} → shape_in c ≡ Ok g → SameShape c c' → Plays g (channel_of g c heap) (asking_on g order bindings counter o) words (channel_of g c' heap') r x o o'
        → PlaysIn c order bindings counter words c' heap heap' r x o o'
    plays_known e k p = record { same_shape = k; known = λ h f. rw (same_shape e f) at p; no_frame = λ f. not_shaped f e; no_edition = λ f. not_shaped f e }

    pub plays_unframed : shape_in c ≡ Err NoFrame → Stays c (unframed_on c (orders.asking order bindings counter o [])) c' heap heap' r x o o'
        → PlaysIn c order bindings counter words c' heap heap' r x o o'
    plays_unframed e s = record { same_shape = same_channel s.channel; known = λ h f. not_shaped e f; no_frame = λ f. s; no_edition = λ f. one_cause e f }

    pub plays_unknown : shape_in c ≡ Err NoEdition → Stays c (Err Edition) c' heap heap' r x o o' → PlaysIn c order bindings counter words c' heap heap' r x o o'
    plays_unknown e s = record { same_shape = same_channel s.channel; known = λ h f. not_shaped e f; no_frame = λ f. one_cause f e; no_edition = λ f. s }

-- where there is no such edition nothing is asked
pub unknown_stays : (c : code.Channel) (heap o : List ℕ) → Stays c (Err Edition) c heap heap (Err Edition) (Ok 0) o o
unknown_stays c heap o = record { answer = answers_by refl; channel = refl; heap_kept = refl; ran = answers_by refl; records = refl }
