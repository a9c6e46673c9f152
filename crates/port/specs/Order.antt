-- What the exported order function answers: the order's own answer, told as numbers.
use Rattle.layout.specs.declared.config.Unshaped.{Unshaped}
use Rattle.layout.specs.declared.config.Shape.{Shape}
use Rattle.std.specs.Prelude.{ℕ, ◌≡◌, List, [], ◌∷◌, Result}
use Rattle.order_spec.specs.Answered.{Asked, order_counter_after, answer_in, order_records_in, context_in}
use Rattle.port_numbers.specs.Order.{order_numbers}

-- these numbers, the counter after and the outputs o and a before and after are those of an order on a context, in an edition and a frame
pub record TellsOrder (f : Result Shape Unshaped) (context : List ℕ) (q : Asked) (number value bindings after : ℕ) (o o' a a' : List ℕ) : Type 0 where
  pub numbers : number ∷ value ∷ bindings ∷ [] ≡ order_numbers (answer_in f context q)
  pub counter : after ≡ order_counter_after q.counter (answer_in f context q)
  pub records : o' ≡ order_records_in f context q o
  pub context_then : a' ≡ context_in f context q a
