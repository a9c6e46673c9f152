-- An order's bytes with a context and bindings, up to causes 15 to 17 and 2: the order that is read, or the refusal.
use Rattle.order_spec.specs.declared.answer.OrderRefusal.{OrderRefusal}
use Rattle.std.specs.Prelude.{ℕ, ◌≡◌, List, [], Err, Ok, Result}
use Rattle.records.specs.declared.order.Order.{Order}
use Rattle.records.specs.Contexts.{checked_context}
use Rattle.records.specs.Orders.{order_of, order_in, wanted}
use Rattle.order_spec.specs.Answered.{read, OrderAnswer}
use Rattle.order.specs.Answers.{asking}

module _ (context order bindings : List ℕ) where
  -- what the answer comes to, whatever is answered after 15 to 17 and 2
  abbrev Comes : ((ℕ → OrderAnswer) → OrderAnswer) → Type 0
  Comes to = (answer : ℕ → OrderAnswer) → read context (asking order bindings 0 [] []) answer ≡ to answer

  -- the order o on a context of k variables, with as many bindings as it wants
  pub record Read (k : ℕ) (o : Order) : Type 0 where
    pub context_good : checked_context context ≡ Ok k
    pub bindings_good : checked_context bindings ≡ Ok (wanted o)
    pub is_order : o ≡ order_of (order_in order)
    pub comes : Comes (λ answer. answer k)

  -- a refusal with 15 to 17 or 2
  pub record Unread (refusal : OrderRefusal) : Type 0 where
    pub comes : Comes (λ answer. Err refusal)

  abbrev pub Begins : Result (ℕ × Order) OrderRefusal → Type 0
  Begins (Ok (k, o)) = Read k o
  Begins (Err refusal) = Unread refusal
