-- Every order that `plan` writes is read back as the order of its line, and the bindings after it are accepted, as many as it asks for.
use Rattle.std.specs.Prelude.{ℕ, ◌≡◌, List, [], ◌∷◌, take, drop, Err, Ok, None, Some}
use Rattle.records.specs.declared.order.Order.{Order}
use Rattle.records.specs.Contexts.{checked_context}
use Rattle.records.specs.Orders.{order_read, wanted}
use Rattle.records.specs.ReadBack.{Each, joined}
use Rattle.plan_line.specs.Words.{lines_of}
use Rattle.plan_line.specs.Orders.{Words, line_of, Line}
use Rattle.plan.specs.Plan.{plan_records, records, line_words, plan_of}

-- an order and its line's words
pub record AskedLine : Type 0 where
  pub order : Order
  pub words : Words

abbrev pub asked_by : Words → Line → List AskedLine → List AskedLine
asked_by ws (Ok None) rest = rest
asked_by ws (Ok (Some o)) rest = record { order = o; words = ws } ∷ rest
asked_by ws (Err wrong) rest = rest

-- the orders of some lines
unfoldable pub asked_in : List (List ℕ) → List AskedLine
asked_in [] = []
asked_in (l ∷ ls) = asked_by (line_words l) (line_of (line_words l)) (asked_in ls)

abbrev pub records_for : AskedLine → List ℕ
records_for a = plan_records a.order a.words

pub record IsRead (a : AskedLine) : Type 0 where
  pub order_reads : order_read (take 24 (records_for a)) ≡ Ok a.order
  pub bindings_accepted : checked_context (drop 24 (records_for a)) ≡ Ok (wanted a.order)

pub record PlansAreRead : Type 0 where
  -- what is written for a text is the records of its lines' orders, one after the other
  pub records_joined : (text bs : List ℕ) → plan_of text ≡ records bs → bs ≡ joined records_for (asked_in (lines_of text))
  pub each_read : (text : List ℕ) → Each IsRead (asked_in (lines_of text))
