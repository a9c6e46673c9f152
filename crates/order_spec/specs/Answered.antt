-- What an order is answered with, on every input. From the scope, 'Causes and numbers', in rising order, and 'Job 2': 15 to 17, for the context and then for
-- the bindings, come before 2.
use Rattle.layout.specs.declared.config.Unshaped.{Unshaped}
use Rattle.std.specs.Prelude.{ℕ, ◌+◌, ◌*◌, ◌/◌, Bool, true, false, cond, List, [], ◌∷◌, ltb, leb, eqb, length, Err, Ok, Result}
use Rattle.std.proofs.lemmas.List.Edits.{sets}
use Rattle.records.specs.Causes.{ACCEPTED, MALFORMED, OPERAND, MISSING, KIND, COUNT, POSITION, LABELS, ROOM, EDITION}
use Rattle.records.specs.declared.order.Order.{Order}
use Rattle.records.specs.Contexts.{checked_context, counted_on, flaw_cause, on_context, bindings_in}
use Rattle.records.specs.Orders.{order_of, order_in, order_starts, wanted}
use Rattle.records.specs.ReadBack.{joined, code_bytes}
use Rattle.records.specs.Names.{last_label}
use Rattle.trees.specs.Tree.{Tree, labels, size, flat}
use Rattle.layout.specs.declared.config.Shape.{Shape}
use Rattle.layout.specs.Config.{in_shape, positions}
use Rattle.order_spec.specs.declared.answer.Accepted.{Accepted}
use Rattle.order_spec.specs.declared.answer.OrderRefusal.{OrderRefusal}
use Rattle.order_spec.specs.declared.answer.OrderRefusal.TheVariants.{Context, Malformed, Frame, Missing, Kind, Count, Position, Labels, Room, Edition}
use Rattle.order_spec.specs.Writes.{count_ok, tree_of, context_after, present, kinds_ok, asked}

abbrev pub OrderAnswer : Type 0
OrderAnswer = Result Accepted OrderRefusal

-- so many records, the counter after them, and so many bindings in the context after them
abbrev pub accepted_with : ℕ → ℕ → ℕ → Accepted
accepted_with records counter bindings = record { records = records; counter = counter; bindings = bindings }

-- the scope's number and values for each answer: 0, with the records, the bindings and the counter after them, where the order is accepted
abbrev pub order_answer_cause : OrderAnswer → List ℕ
order_answer_cause (Ok a) = ACCEPTED ∷ a.records ∷ a.bindings ∷ a.counter ∷ []
order_answer_cause (Err (Context flaw)) = flaw_cause flaw
order_answer_cause (Err (Malformed place)) = MALFORMED ∷ place ∷ []
order_answer_cause (Err Frame) = OPERAND ∷ []
order_answer_cause (Err Missing) = MISSING ∷ []
order_answer_cause (Err Kind) = KIND ∷ []
order_answer_cause (Err Count) = COUNT ∷ []
order_answer_cause (Err Position) = POSITION ∷ []
order_answer_cause (Err Labels) = LABELS ∷ []
order_answer_cause (Err (Room bytes)) = ROOM ∷ bytes ∷ []
order_answer_cause (Err Edition) = EDITION ∷ []

-- the counter after an answer: a refusal keeps it
abbrev pub order_counter_after : ℕ → OrderAnswer → ℕ
order_counter_after counter (Ok a) = a.counter
order_counter_after counter (Err refusal) = counter

abbrev pub order_accepted : OrderAnswer → Bool
order_accepted (Ok a) = true
order_accepted (Err refusal) = false

-- what goes in with an order: its bytes, those of the bindings that follow it, the label counter, and how many bytes the two outputs have
pub record Asked : Type 0 where
  pub order : List ℕ
  pub bindings : List ℕ
  pub counter : ℕ
  pub records_room : ℕ
  pub context_room : ℕ

-- the order in record 1
abbrev pub order_is : Asked → Order
order_is q = order_of (order_in q.order)

-- how many variables a context has
abbrev pub places_in : List ℕ → ℕ
places_in context = bindings_in (checked_context context)

-- the records of an order as a tree, and the context after it
abbrev pub order_tree : Shape → List ℕ → Asked → Tree
order_tree g context q = tree_of g context (places_in context) q.bindings (order_is q)

abbrev pub order_context : List ℕ → Asked → List ℕ
order_context context q = context_after context (places_in context) q.bindings (order_is q)

-- 9 and 10: n records, so many labels drawn, and so many bytes of the context after them
abbrev pub fitting : ℕ → ℕ → ℕ → ℕ → ℕ → ℕ → OrderAnswer
fitting counter room context_room n drawn after =
    cond (ltb last_label (counter + drawn)) (Err Labels)
    (cond (ltb room (24 * n)) (Err (Room (24 * n)))
    (cond (ltb context_room after) (Err (Room after)) (Ok (accepted_with n (counter + drawn) (after / 8)))))

-- for the records of t
abbrev pub order_granted : Asked → Tree → List ℕ → OrderAnswer
order_granted q t after = fitting q.counter q.records_room q.context_room (size t) (labels t) (length after)

-- 4 to 10, for a well-formed order on k variables
abbrev pub decided : Shape → List ℕ → ℕ → Asked → OrderAnswer
decided g context k q =
    cond (present context k q.bindings (order_is q))
    (cond (kinds_ok context k q.bindings (order_is q))
    (cond (count_ok (order_is q))
    (cond (leb (asked context k q.bindings (order_is q)) (positions g))
    (order_granted q (tree_of g context k q.bindings (order_is q)) (context_after context k q.bindings (order_is q)))
    (Err Position)) (Err Count)) (Err Kind)) (Err Missing)

-- 15 to 17 for the context, then for the bindings, whose places count on; 2 for the order: record 1, the number of its bindings, a record too many; then what is answered on the context's variables
abbrev pub read : List ℕ → Asked → (ℕ → OrderAnswer) → OrderAnswer
read context q answer =
    on_context (checked_context context)
    (λ k. on_context (counted_on k (checked_context q.bindings))
    (λ m. cond (order_starts q.order)
    (cond (eqb m (wanted (order_is q)))
    (cond (eqb (length q.order) 24) (answer k) (Err (Malformed 2)))
    (Err (Malformed 1)))
    (Err (Malformed 1))) (λ flaw. Err (Context flaw))) (λ flaw. Err (Context flaw))

unfoldable pub answer_to : Shape → List ℕ → Asked → OrderAnswer
answer_to g context q = read context q (λ k. decided g context k q)

-- 3 for another number of spills than a frame has, after 15 to 17 and 2
unfoldable pub unframed_order : List ℕ → Asked → OrderAnswer
unframed_order context q = read context q (λ k. Err Frame)

-- the records' bytes
abbrev pub order_records : Shape → List ℕ → Asked → List ℕ
order_records g context q = joined code_bytes (flat (order_tree g context q) q.counter)

-- the two outputs: what is written from their start where the order is accepted, else as they were
abbrev pub records_output : Shape → List ℕ → Asked → List ℕ → List ℕ
records_output g context q o = cond (order_accepted (answer_to g context q)) (sets o 0 (order_records g context q)) o

abbrev pub context_output : Shape → List ℕ → Asked → List ℕ → List ℕ
context_output g context q o = cond (order_accepted (answer_to g context q)) (sets o 0 (order_context context q)) o

-- the answer and the two outputs by edition and frame: where there is no such edition or frame, both outputs stay
abbrev pub answer_in : Result Shape Unshaped → List ℕ → Asked → OrderAnswer
answer_in f context q = in_shape f (λ g. answer_to g context q) (unframed_order context q) (Err Edition)

abbrev pub order_records_in : Result Shape Unshaped → List ℕ → Asked → List ℕ → List ℕ
order_records_in f context q o = in_shape f (λ g. records_output g context q o) o o

abbrev pub context_in : Result Shape Unshaped → List ℕ → Asked → List ℕ → List ℕ
context_in f context q o = in_shape f (λ g. context_output g context q o) o o
