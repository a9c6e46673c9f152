-- An order that is not refused by a cause before 9 has passed those, and is answered by its records, its labels and the room for them.
use Rattle.records.specs.declared.context.Flaw.{Flaw}
use Rattle.std.specs.Prelude.{Ok, Err, Result}
use Prim.Native.Nat.{ℕ, ◌+◌, ◌*◌, ◌/◌, ◌≤◌, ◌<◌}
use mathlib.Core.Path.{◌≡◌, refl, sym, ap, ◌∙◌}
use mathlib.Core.Logic.{◌≢◌}
use mathlib.Core.Bool.{Bool, true, false, cond}
use mathlib.Core.List.{List}
use native.Mathlib.Omega.{arith}
use lib.Dec.{ltb, leb, eqb}
use lib.ListN.{length}
use borrow.Author.Tests.{eqb-true, leb-true, le-ltb, lt-ltb}
use Rattle.records.specs.Contexts.{checked_context, counted_on, bindings_in, on_context}
use Rattle.records.specs.Orders.{order_starts, wanted}
use Rattle.records.proofs.Conditions.{never}
use Rattle.records.proofs.ContextsRead.{counted_good, context_long}
use Rattle.records.specs.Names.{last_label}
use Rattle.trees.specs.Tree.{Tree, labels, size}
use Rattle.layout.specs.declared.config.Shape.{Shape}
use Rattle.layout.specs.Config.{Supported, positions, most_variables}
use Rattle.order_spec.specs.declared.answer.OrderRefusal.TheVariants.{Context, Malformed, Frame, Missing, Kind, Count, Position, Labels, Room, Edition}
use Rattle.order_spec.specs.Writes.{count_ok, tree_of, context_after, present, kinds_ok, asked}
use Rattle.order_spec.specs.Answered.{Asked, order_accepted, order_is, places_in, order_context, order_granted, answer_to, accepted_with, OrderAnswer}
use Rattle.order_spec.proofs.Accepting.{all_passed, all_judged}
use Rattle.order_check.proofs.Leaving.{after_long}
use Rattle.port_rooms_proof.specs.Sizes.{room_for_records, room_for_context}
use Rattle.port_rooms_proof.proofs.OrderSizes.{order_most, few_left}

-- before 9
early : OrderAnswer → Bool
early (Ok a) = false
early (Err (Context flaw)) = true
early (Err (Malformed place)) = true
early (Err Frame) = true
early (Err Missing) = true
early (Err Kind) = true
early (Err Count) = true
early (Err Position) = true
early (Err Labels) = false
early (Err (Room bytes)) = false
early (Err Edition) = true

pub record Passed (g : Shape) (context : List ℕ) (q : Asked) (k : ℕ) : Type 0 where
  pub bindings_good : checked_context q.bindings ≡ Ok (wanted (order_is q))
  pub there : present context k q.bindings (order_is q) ≡ true
  pub placed : asked context k q.bindings (order_is q) ≤ positions g
  pub answer : answer_to g context q ≡ order_granted q (tree_of g context k q.bindings (order_is q)) (context_after context k q.bindings (order_is q))

-- a choice of which the second part is such a refusal
chosen : (b : Bool) (x y : OrderAnswer) → early y ≡ true → early (cond b x y) ≡ false → (b ≡ true) × (early x ≡ false)
chosen true x y r e = (refl, e)
chosen false x y r e = never (sym e ∙ r)

on_good : (c : Result ℕ Flaw) (f : ℕ → OrderAnswer) → early (on_context c f (λ flaw. Err (Context flaw))) ≡ false → (k : ℕ) × (c ≡ Ok k) × (early (f k) ≡ false)
unfolding early
on_good (Ok k) f e = (k, refl, e)
on_good (Err flaw) f e = never (sym e)

passed : (g : Shape) (context : List ℕ) (q : Asked) → early (answer_to g context q) ≡ false → (k : ℕ) × (checked_context context ≡ Ok k) × Passed g context q k
unfolding answer_to early
passed g context q e =
    let a = on_good (checked_context context) _ e in
    let k : ℕ = a.0 in
    let b = on_good (counted_on k (checked_context q.bindings)) _ a.2 in
    let bindings = counted_good k (checked_context q.bindings) b.1 in
    let c = chosen (order_starts q.order) _ (Err (Malformed 1)) refl b.2 in
    let d = chosen (eqb b.0 (wanted (order_is q))) _ (Err (Malformed 1)) refl c.1 in
    let f = chosen (eqb (length q.order) 24) _ (Err (Malformed 2)) refl d.1 in
    let p = chosen (present context k q.bindings (order_is q)) _ (Err Missing) refl f.1 in
    let s = chosen (kinds_ok context k q.bindings (order_is q)) _ (Err Kind) refl p.1 in
    let n = chosen (count_ok (order_is q)) _ (Err Count) refl s.1 in
    let h = chosen (leb (asked context k q.bindings (order_is q)) (positions g)) _ (Err Position) refl n.1 in (
      k,
      a.1,
      record {
        bindings_good = bindings ∙ ap Ok (eqb-true b.0 (wanted (order_is q)) d.0);
        there = p.0;
        placed = leb-true (asked context k q.bindings (order_is q)) (positions g) h.0;
        answer = all_passed g context q a.1 bindings c.0 d.0 f.0 ∙ all_judged g context q k p.0 s.0 n.0 h.0;
      },
    )

-- 9 and 10
labels_or_none : (b : Bool) (records counter bindings bytes : ℕ) → cond b (Err Labels) (Ok (accepted_with records counter bindings)) ≢ Err (Room bytes)
labels_or_none true records counter bindings bytes e = let z : ◌≡◌ {A = ℕ} 0 1 = cc in omega arith
labels_or_none false records counter bindings bytes e = let z : ◌≡◌ {A = ℕ} 0 1 = cc in omega arith

module _ (q : Asked) (t : Tree) (after : List ℕ) where
  no_room_wanted : 24 * size t ≤ q.records_room → length after ≤ q.context_room → (bytes : ℕ) → order_granted q t after ≢ Err (Room bytes)
  no_room_wanted h l bytes e =
      labels_or_none (ltb last_label (q.counter + labels t)) (size t) (q.counter + labels t) (length after / 8) bytes
      (rw (le-ltb q.records_room (24 * size t) h, le-ltb q.context_room (length after) l) at e)

  pub records_short : {n : ℕ} → q.counter + labels t ≤ last_label → 24 * size t ≡ n → q.records_room < n → order_granted q t after ≡ Err (Room n)
  records_short {n} l e h = rw (le-ltb last_label (q.counter + labels t) l, e, lt-ltb q.records_room n h)

  pub context_short : {n : ℕ} → q.counter + labels t ≤ last_label → 24 * size t ≤ q.records_room → length after ≡ n → q.context_room < n
      → order_granted q t after ≡ Err (Room n)
  context_short {n} l r e h = rw (le-ltb last_label (q.counter + labels t) l, le-ltb q.records_room (24 * size t) r, e, lt-ltb q.context_room n h)

accepted_late : (r : OrderAnswer) → order_accepted r ≡ true → early r ≡ false
unfolding early
accepted_late (Ok a) e = refl
accepted_late (Err (Context flaw)) e = sym e
accepted_late (Err (Malformed place)) e = sym e
accepted_late (Err Frame) e = sym e
accepted_late (Err Missing) e = sym e
accepted_late (Err Kind) e = sym e
accepted_late (Err Count) e = sym e
accepted_late (Err Position) e = sym e
accepted_late (Err Labels) e = refl
accepted_late (Err (Room bytes)) e = refl
accepted_late (Err Edition) e = sym e

few_places : (g : Shape) (s : List ℕ) → length s ≤ 8 * most_variables g → places_in s ≤ most_variables g
few_places g s h = by (checked_context s) refl
  where
    by : (c : Result ℕ Flaw) → checked_context s ≡ c → bindings_in c ≤ most_variables g
    by (Ok n) e = omega (arith, context_long s n e)
    by (Err flaw) e = omega arith

module _ (g : Shape) (s : Supported g) (context : List ℕ) (q : Asked) (few : places_in context ≤ most_variables g) where
  context_few : (k : ℕ) → checked_context context ≡ Ok k → Passed g context q k
      → length (context_after context k q.bindings (order_is q)) ≤ 8 * most_variables g
  context_few k good p =
      let l : k ≤ most_variables g = rw good at few in
      let a = after_long context k q.bindings (order_is q) (context_long context k good) (context_long q.bindings (wanted (order_is q)) p.bindings_good) in
      omega (arith, few_left context k q.bindings g s (order_is q) l p.there p.placed)

  pub variables_stay : order_accepted (answer_to g context q) ≡ true → places_in (order_context context q) ≤ most_variables g
  variables_stay e =
      let p = passed g context q (accepted_late (answer_to g context q) e) in
      few_places g (order_context context q) (rw p.1 (context_few p.0 p.1 p.2))

  pub enough_room : room_for_records g ≤ q.records_room → room_for_context g ≤ q.context_room → (bytes : ℕ) → answer_to g context q ≢ Err (Room bytes)
  unfolding early
  enough_room r l bytes e =
      let p = passed g context q (ap early e) in
      let k = p.0 in
      let t = tree_of g context k q.bindings (order_is q) in
      let after = context_after context k q.bindings (order_is q) in
      let o = order_most context k q.bindings g s (order_is q) p.2.there p.2.placed in
      let c = context_few k p.1 p.2 in
      no_room_wanted q t after (omega arith) (omega arith) bytes (sym p.2.answer ∙ e)
