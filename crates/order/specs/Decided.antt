-- The causes of the scope from 4 on, by an order that is read: what `decided` of the orders says, with the order in place of its bytes.
use Rattle.std.specs.Prelude.{ℕ, ◌≤◌, ◌≡◌, true, cond, List, leb, length, Err, Ok}
use Rattle.std.proofs.lemmas.List.Edits.{sets}
use Rattle.records.specs.Contexts.{checked_context}
use Rattle.records.specs.Orders.{wanted}
use Rattle.records.specs.ReadBack.{joined, code_bytes}
use Rattle.trees.specs.Tree.{Tree, labels, size, flat}
use Rattle.layout.specs.declared.config.Shape.{Shape}
use Rattle.layout.specs.Config.{Supported, positions}
use Rattle.order_spec.specs.declared.answer.OrderRefusal.TheVariants.{Missing, Kind, Count, Position}
use Rattle.order_spec.specs.Writes.{count_ok, tree_of, context_after, present, kinds_ok, asked}
use Rattle.order_spec.specs.Answered.{fitting, order_accepted, OrderAnswer}
use Rattle.order.specs.declared.order.Work.{Work}

module _ (g : Shape) (context bindings : List ℕ) (w : Work) where
  -- what writing an order asks: its context and its bindings are read, and it passes 4 and 8
  pub record Writable : Type 0 where
    pub context_good : checked_context context ≡ Ok w.k
    pub bindings_good : checked_context bindings ≡ Ok (wanted w.order)
    pub there : present context w.k bindings w.order ≡ true
    pub placed : asked context w.k bindings w.order ≤ positions g
    pub supported : Supported g

  -- its records, and the bytes of the context after it
  abbrev pub tree : Tree
  tree = tree_of g context w.k bindings w.order

  abbrev pub after : List ℕ
  after = context_after context w.k bindings w.order

  -- 9 and 10, and 4 to 8 before them
  module _ (room context_room : ℕ) where
    unfoldable pub fits : OrderAnswer
    fits = fitting w.counter room context_room (size tree) (labels tree) (length after)

    unfoldable pub judged : OrderAnswer
    judged =
        cond (present context w.k bindings w.order)
        (cond (kinds_ok context w.k bindings w.order)
        (cond (count_ok w.order)
        (cond (leb (asked context w.k bindings w.order) (positions g)) fits
        (Err Position)) (Err Count)) (Err Kind)) (Err Missing)

  -- an answer r that is the one expected, and two outputs: what is written from their start where it is accepted, else as they were
  pub record LeavesOrder (expected r : OrderAnswer) (o o' c c' : List ℕ) : Type 0 where
    pub answer : r ≡ expected
    pub records : o' ≡ cond (order_accepted expected) (sets o 0 (joined code_bytes (flat tree w.counter))) o
    pub context_then : c' ≡ cond (order_accepted expected) (sets c 0 after) c

  -- by 9 and 10 alone, and by 4 to 10
  module _ (r : OrderAnswer) (o o' c c' : List ℕ) where
    abbrev pub Writes : Type 0
    Writes = LeavesOrder (fits (length o) (length c)) r o o' c c'

    abbrev pub Judges : Type 0
    Judges = LeavesOrder (judged (length o) (length c)) r o o' c c'
