-- From an operation's answer to what the exported function tells.
use Rattle.layout.specs.declared.config.Unshaped.{Unshaped}
use Rattle.layout.specs.declared.config.Shape.{Shape}
use Rattle.std.specs.Prelude.{Result}
use Prim.Native.Nat.{ℕ}
use mathlib.Core.Path.{◌≡◌, ap, ◌∙◌}
use mathlib.Core.List.{List, [], ◌∷◌}
use Rattle.records.specs.declared.code.Code.{Code}
use Rattle.emit.specs.Answers.{Answers, Answer}
use Rattle.routine.specs.Routine.{Assembles}
use Rattle.order_spec.specs.Answered.{Asked, order_counter_after, OrderAnswer}
use Rattle.order.specs.Answers.{AnswersOrder}
use Rattle.port_numbers.specs.Emission.{answer_numbers}
use Rattle.port_numbers.specs.Order.{order_numbers}
use Rattle.port.specs.Emission.{Tells, TellsRoutine}
use Rattle.port.specs.Order.{TellsOrder}

pub tells : {o o' : List ℕ} {r expected : Answer} {cs : List Code} {number value : ℕ} → Answers o o' r expected cs → number ∷ value ∷ [] ≡ answer_numbers r → Tells o o' number value expected cs
tells a e = record { numbers = e ∙ ap answer_numbers a.answer; bytes = a.bytes }

pub tells_routine : {o o' : List ℕ} {r expected : Answer} {routine : List ℕ} {number value : ℕ} → Assembles o o' r expected routine → number ∷ value ∷ [] ≡ answer_numbers r → TellsRoutine o o' number value expected routine
tells_routine a e = record { numbers = e ∙ ap answer_numbers a.answer; bytes = a.bytes }

pub tells_order : {f : Result Shape Unshaped} {context o o' a a' : List ℕ} {q : Asked} {r : OrderAnswer} {number value bindings after : ℕ} → AnswersOrder f context q r o o' a a' → number ∷ value ∷ bindings ∷ [] ≡ order_numbers r → after ≡ order_counter_after q.counter r → TellsOrder f context q number value bindings after o o' a a'
tells_order {q = q} s e d = record { numbers = e ∙ ap order_numbers s.answer; counter = d ∙ ap (order_counter_after q.counter) s.answer; records = s.records; context_then = s.after }
