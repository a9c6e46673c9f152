-- What the order function ensures of its answer and its two outputs, on every input.
use Rattle.layout.specs.declared.config.Unshaped.{Unshaped}
use Rattle.layout.specs.declared.config.Shape.{Shape}
use Rattle.std.specs.Prelude.{ℕ, ◌≡◌, List, length, Result}
use Rattle.order_spec.specs.Answered.{Asked, order_answer_cause, answer_in, order_records_in, context_in, OrderAnswer}

-- what goes in: the order's bytes, the bindings that follow it, the counter, and the two outputs
abbrev pub asking : List ℕ → List ℕ → ℕ → List ℕ → List ℕ → Asked
asking order bindings counter records after =
    record { order = order; bindings = bindings; counter = counter; records_room = length records; context_room = length after }

-- the answer r and what the outputs o and a become are what the documents say of the edition and the frame, the context and what goes in
pub record AnswersOrder (f : Result Shape Unshaped) (context : List ℕ) (q : Asked) (r : OrderAnswer) (o o' a a' : List ℕ) : Type 0 where
  pub answer : r ≡ answer_in f context q
  pub cause : order_answer_cause r ≡ order_answer_cause (answer_in f context q)
  pub records : o' ≡ order_records_in f context q o
  pub after : a' ≡ context_in f context q a
