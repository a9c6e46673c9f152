-- What an accepted order says of its context, its bindings, its operands and its outputs.
use Rattle.records.specs.declared.context.Flaw.{Flaw}
use Rattle.std.specs.Prelude.{Ok, Err, Result}
use Prim.Native.Nat.{ℕ, ◌+◌, ◌*◌, ◌/◌, ◌≤◌}
use mathlib.Core.Path.{◌≡◌, refl, sym, ap, ◌∙◌}
use mathlib.Core.Bool.{true}
use mathlib.Core.List.{List}
use lib.Dec.{ltb, leb, eqb}
use lib.ListN.{length}
use borrow.Author.Tests.{eqb-true, ltb-false, leb-true}
use Rattle.records.specs.Contexts.{checked_context, counted_on, on_context}
use Rattle.records.specs.Orders.{order_starts, wanted}
use Rattle.records.proofs.Conditions.{chosen, passed, never}
use Rattle.records.proofs.ContextsRead.{counted_good}
use Rattle.records.specs.Names.{last_label}
use Rattle.trees.specs.Tree.{Tree, labels, size}
use Rattle.layout.specs.declared.config.Shape.{Shape}
use Rattle.layout.specs.Config.{positions}
use Rattle.order_spec.specs.declared.answer.OrderRefusal.TheVariants.{Context, Malformed, Missing, Kind, Count, Position, Labels, Room}
use Rattle.order_spec.specs.Writes.{count_ok, tree_of, context_after, present, kinds_ok, asked}
use Rattle.order_spec.specs.Answered.{Asked, order_accepted, order_is, fitting, order_granted, decided, answer_to, accepted_with, OrderAnswer}

-- the answer to an accepted order of records t and the context after them
abbrev pub acceptance : Asked → Tree → List ℕ → OrderAnswer
acceptance q t after = Ok (accepted_with (size t) (q.counter + labels t) (length after / 8))

pub record Taken (G : Shape) (context : List ℕ) (q : Asked) (k : ℕ) : Type 0 where
  pub bindings_good : checked_context q.bindings ≡ Ok (wanted (order_is q))
  pub starts : order_starts q.order ≡ true
  pub alone : eqb (length q.order) 24 ≡ true
  pub there : present context k q.bindings (order_is q) ≡ true
  pub of_kind : kinds_ok context k q.bindings (order_is q) ≡ true
  pub counted : count_ok (order_is q) ≡ true
  pub placed : asked context k q.bindings (order_is q) ≤ positions G
  pub labelled : q.counter + labels (tree_of G context k q.bindings (order_is q)) ≤ last_label
  pub records_fit : 24 * size (tree_of G context k q.bindings (order_is q)) ≤ q.records_room
  pub context_fits : length (context_after context k q.bindings (order_is q)) ≤ q.context_room
  pub answer : answer_to G context q ≡ acceptance q (tree_of G context k q.bindings (order_is q)) (context_after context k q.bindings (order_is q))

on_good : (c : Result ℕ Flaw) (f : ℕ → OrderAnswer) → order_accepted (on_context c f (λ flaw. Err (Context flaw))) ≡ true → (k : ℕ) × (c ≡ Ok k) × (order_accepted (f k) ≡ true)
on_good (Ok k) f e = (k, refl, e)
on_good (Err flaw) f e = never e

-- what an accepted answer says of 9 and 10
module _ (counter room context_room n drawn after : ℕ) where
  pub record Fitted : Type 0 where
    pub labelled : counter + drawn ≤ last_label
    pub records_fit : 24 * n ≤ room
    pub context_fits : after ≤ context_room
    pub answer : fitting counter room context_room n drawn after ≡ Ok (accepted_with n (counter + drawn) (after / 8))

  pub fitted_if : order_accepted (fitting counter room context_room n drawn after) ≡ true → Fitted
  fitted_if e =
      let a = passed order_accepted (ltb last_label (counter + drawn)) (Err Labels) _ refl e in
      let b = passed order_accepted (ltb room (24 * n)) (Err (Room (24 * n))) _ refl a.1 in
      let c = passed order_accepted (ltb context_room after) (Err (Room after)) _ refl b.1 in
      record {
        labelled = ltb-false last_label (counter + drawn) a.0;
        records_fit = ltb-false room (24 * n) b.0;
        context_fits = ltb-false context_room after c.0;
        answer = rw (a.0, b.0, c.0);
      }

-- for the records of t and the context after them
abbrev Granted : Asked → Tree → List ℕ → Type 0
Granted q t after = Fitted q.counter q.records_room q.context_room (size t) (labels t) (length after)

granted_if : (q : Asked) (t : Tree) (after : List ℕ) → order_accepted (order_granted q t after) ≡ true → Granted q t after
granted_if q t after = fitted_if q.counter q.records_room q.context_room (size t) (labels t) (length after)

module _ (G : Shape) (context : List ℕ) (q : Asked) (k : ℕ) where
  pub record Decided : Type 0 where
    pub there : present context k q.bindings (order_is q) ≡ true
    pub of_kind : kinds_ok context k q.bindings (order_is q) ≡ true
    pub counted : count_ok (order_is q) ≡ true
    pub placed : asked context k q.bindings (order_is q) ≤ positions G
    pub grants : Granted q (tree_of G context k q.bindings (order_is q)) (context_after context k q.bindings (order_is q))
    pub answer : decided G context k q ≡ acceptance q (tree_of G context k q.bindings (order_is q)) (context_after context k q.bindings (order_is q))

  decided_if : order_accepted (decided G context k q) ≡ true → Decided
  decided_if e =
      let a = chosen order_accepted (present context k q.bindings (order_is q)) _ (Err Missing) refl e in
      let b = chosen order_accepted (kinds_ok context k q.bindings (order_is q)) _ (Err Kind) refl a.1 in
      let c = chosen order_accepted (count_ok (order_is q)) _ (Err Count) refl b.1 in
      let d = chosen order_accepted (leb (asked context k q.bindings (order_is q)) (positions G)) _ (Err Position) refl c.1 in
      let g = granted_if q (tree_of G context k q.bindings (order_is q)) (context_after context k q.bindings (order_is q)) d.1 in
      record {
        there = a.0;
        of_kind = b.0;
        counted = c.0;
        placed = leb-true (asked context k q.bindings (order_is q)) (positions G) d.0;
        grants = g;
        answer = rw (a.0, b.0, c.0, d.0) g.answer;
      }

-- an order that passes 15 to 17 and 2, and one that passes 4 to 8
pub all_passed : (G : Shape) (context : List ℕ) (q : Asked) {k m : ℕ} → checked_context context ≡ Ok k → checked_context q.bindings ≡ Ok m → order_starts q.order ≡ true
    → eqb m (wanted (order_is q)) ≡ true → eqb (length q.order) 24 ≡ true → answer_to G context q ≡ decided G context k q
unfolding answer_to
all_passed G context q c b s n w = rw (c, b, s, n, w)

pub all_judged : (G : Shape) (context : List ℕ) (q : Asked) (k : ℕ) → present context k q.bindings (order_is q) ≡ true → kinds_ok context k q.bindings (order_is q) ≡ true → count_ok (order_is q) ≡ true
    → leb (asked context k q.bindings (order_is q)) (positions G) ≡ true
    → decided G context k q ≡ order_granted q (tree_of G context k q.bindings (order_is q)) (context_after context k q.bindings (order_is q))
all_judged G context q k a b c d = rw (a, b, c, d)

pub good_context : (G : Shape) (context : List ℕ) (q : Asked) → order_accepted (answer_to G context q) ≡ true → (k : ℕ) × (checked_context context ≡ Ok k)
unfolding answer_to
good_context G context q e = let a = on_good (checked_context context) _ e in (a.0, a.1)

pub taken : (G : Shape) (context : List ℕ) (q : Asked) (k : ℕ) → checked_context context ≡ Ok k → order_accepted (answer_to G context q) ≡ true → Taken G context q k
unfolding answer_to
taken G context q k good e =
    let a = on_good (checked_context context) _ e in
    let same : a.0 ≡ k = good_same (sym a.1 ∙ good) in
    let b = on_good (counted_on a.0 (checked_context q.bindings)) _ a.2 in
    let bindings = counted_good a.0 (checked_context q.bindings) b.1 in
    let c = chosen order_accepted (order_starts q.order) _ (Err (Malformed 1)) refl b.2 in
    let d = chosen order_accepted (eqb b.0 (wanted (order_is q))) _ (Err (Malformed 1)) refl c.1 in
    let f = chosen order_accepted (eqb (length q.order) 24) _ (Err (Malformed 2)) refl d.1 in
    let g = decided_if G context q k (rw same at f.1) in
    record {
      bindings_good = bindings ∙ ap Ok (eqb-true b.0 (wanted (order_is q)) d.0);
      starts = c.0;
      alone = f.0;
      there = g.there;
      of_kind = g.of_kind;
      counted = g.counted;
      placed = g.placed;
      labelled = g.grants.labelled;
      records_fit = g.grants.records_fit;
      context_fits = g.grants.context_fits;
      answer = all_passed G context q good bindings c.0 d.0 f.0 ∙ g.answer;
    }
  where
    good_same : {j : ℕ} → ◌≡◌ {A = Result ℕ Flaw} (Ok j) (Ok k) → j ≡ k
    good_same e = cc
