-- An order's answer, told as numbers.
use Rattle.std.specs.Prelude.{ℕ, List, [], ◌∷◌, get_or}
use Rattle.order_spec.specs.Answered.{order_answer_cause, OrderAnswer}
use Rattle.port_numbers.specs.Numbers.{number_in, value_in}

-- an answer's number, its value and the bindings of the context after it; accepted, the value is the number of records written
abbrev pub order_numbers : OrderAnswer → List ℕ
order_numbers r = number_in (order_answer_cause r) ∷ value_in (order_answer_cause r) ∷ get_or (order_answer_cause r) 2 0 ∷ []
