-- Orders that reach the bounds on records, by computation, and that need the whole room for records or for the context.
use Rattle.std.specs.Prelude.{Ok, Err}
use Prim.Native.Nat.{ℕ, zero, suc, ◌+◌, ◌*◌, ◌-◌, ◌≤◌, ◌<◌}
use mathlib.Core.Path.{◌≡◌, refl, ◌∙◌}
use mathlib.Core.Bool.{true}
use mathlib.Core.List.{List, [], append-nil}
use native.Mathlib.Omega.{arith}
use lib.ListN.{replicate, length-replicate}
use borrow.Author.Tests.{le-leb, ne_eqb}
use Rattle.records.specs.declared.binding.Kind.{Kind}
use Rattle.records.specs.declared.binding.Kind.TheVariants.{Linked, Ext}
use Rattle.records.specs.declared.binding.Binding.{Binding}
use Rattle.records.specs.declared.order.Order.{Order}
use Rattle.records.specs.declared.order.Order.TheVariants.{Put, Store}
use Rattle.records.specs.Bytes.{le}
use Rattle.records.specs.Contexts.{binding_bytes, checked_context}
use Rattle.records.specs.Orders.{order_of, order_readers, order_ok, order_operands_ok, used_by_order, wanted}
use Rattle.records.specs.ReadBack.{Each, WellFormedBinding, WellFormedOrder}
use Rattle.records.proofs.OrdersBack.{order_laws}
use Rattle.records.proofs.ReadBack.{records_read_back}
use Rattle.records.proofs.ContextsRead.{context_long}
use Rattle.trees.specs.Tree.{labels}
use Rattle.layout.specs.declared.config.Shape.{Shape}
use Rattle.layout.specs.Config.{Supported, frame_of, edition_of, shape_of, positions, most_variables}
use Rattle.layout.specs.Positions.{location}
use Rattle.memory.specs.Objects.{snd, ext_in}
use Rattle.memory.proofs.Sizes.{store_object_size, immediate_size}
use Rattle.order_spec.specs.declared.answer.OrderRefusal.TheVariants.{Room}
use Rattle.order_spec.specs.Writes.{count_ok, tree_of, context_after, present, kinds_ok, asked}
use Rattle.order_spec.specs.Answered.{Asked, order_is, order_granted, answer_to}
use Rattle.order_spec.proofs.Accepting.{all_passed, all_judged}
use Rattle.order_check.proofs.Leaving.{after_long}
use Rattle.port_rooms_proof.specs.Sizes.{variables, store_of_all, room_for_records, room_for_context}
use Rattle.port_rooms_proof.specs.Claims.{asked_with, RoomsByShape, OrdersFill}
use Rattle.port_rooms_proof.proofs.Answering.{records_short, context_short}
use Rattle.port_rooms_proof.proofs.OrderSizes.{order_most}

-- a context of so many variables is accepted
module _ (kind : Kind) where
  each : (n : ℕ) → Each WellFormedBinding (replicate n (record { kind = kind; id = 0 }))
  each zero = tt
  each (suc n) = (omega arith, each n)

  variables_good : (n : ℕ) → n ≤ 4096 → checked_context (variables kind n) ≡ Ok n
  variables_good n h =
      let b : Binding = record { kind = kind; id = 0 } in
      rw (length-replicate {A = Binding} n b) at (records_read_back.context_accepted (replicate n b) (each n) (rw (length-replicate {A = Binding} n b) h))

-- an order alone on such a context, which nothing before 9 refuses
module _ (g : Shape) (context : List ℕ) (k : ℕ) (good : checked_context context ≡ Ok k) (o : Order) (w : WellFormedOrder o) (alone : wanted o ≡ 0) (records after : ℕ) where
  abbrev q : Asked
  q = asked_with o records after

  is : order_is q ≡ o
  is = rw append-nil at (order_laws.same o [] w)

  none_good : checked_context [] ≡ Ok 0
  none_good = records_read_back.context_accepted [] tt (omega arith)

  ordered : present context k [] o ≡ true → kinds_ok context k [] o ≡ true → count_ok o ≡ true → asked context k [] o ≤ positions g
      → answer_to g context q ≡ order_granted q (tree_of g context k [] o) (context_after context k [] o)
  ordered p n c h =
      let starts = rw append-nil at (order_laws.good o [] w) in
      rw is at
      (all_passed g context q good none_good starts (rw (is, alone)) (rw (order_laws.long o))
      ∙ all_judged g context q k (rw is p) (rw is n) (rw is c) (rw is (le-leb (asked context k [] o) (positions g) h)))

module _ (g : Shape) (s : Supported g) (room : ℕ) where
  abbrev most : ℕ
  most = most_variables g

  stored : WellFormedOrder (Store most 0)
  unfolding order_ok order_operands_ok used_by_order order_of order_readers
  stored = record { a_fits = omega arith; b_fits = omega arith; n_fits = omega (arith, s.frame); value_fits = omega arith; ok = refl }

  store_labels : labels (store_of_all g) ≤ 10 * most + 100
  unfolding tree_of
  store_labels = omega (arith, (store_object_size g (ext_in (variables Linked most) 0) s (most - most) most).0, (immediate_size g (snd (most - most)) 0).0)

  records_needed : room < room_for_records g → answer_to g (variables Linked most) (asked_with (Store most 0) room (room_for_context g)) ≡ Err (Room (room_for_records g))
  unfolding present kinds_ok asked
  records_needed h =
      let context : List ℕ = variables Linked most in
      ordered g context most (variables_good Linked most (omega (arith, s.frame))) (Store most 0) stored refl room (room_for_context g)
      (le-leb most most (omega arith)) refl refl (rw (ne_eqb most 0 (λ e. omega (arith, s.aside))) (omega arith))
      ∙ records_short (asked_with (Store most 0) room (room_for_context g)) (store_of_all g) (context_after context most [] (Store most 0)) (omega (arith, store_labels, s.frame)) refl h

  -- a put on all but one
  abbrev before : List ℕ
  before = variables Ext (most - 1)

  put : WellFormedOrder (Put 0)
  unfolding order_ok order_operands_ok used_by_order order_of order_readers
  put = record { a_fits = omega arith; b_fits = omega arith; n_fits = omega arith; value_fits = omega arith; ok = refl }

  put_labels : labels (tree_of g before (most - 1) [] (Put 0)) ≤ 0
  unfolding tree_of
  put_labels = (immediate_size g (snd (most - 1)) 0).0

  context_needed : room < room_for_context g → answer_to g before (asked_with (Put 0) (room_for_records g) room) ≡ Err (Room (room_for_context g))
  unfolding present kinds_ok asked
  context_needed h =
      let good : checked_context before ≡ Ok (most - 1) = variables_good Ext (most - 1) (omega (arith, s.frame)) in
      let fits : asked before (most - 1) [] (Put 0) ≤ positions g = omega (arith, s.aside) in
      let long = after_long before (most - 1) [] (Put 0) (context_long before (most - 1) good) refl in
      ordered g before (most - 1) good (Put 0) put refl (room_for_records g) room refl refl refl fits
      ∙ context_short (asked_with (Put 0) (room_for_records g) room) (tree_of g before (most - 1) [] (Put 0)) (context_after before (most - 1) [] (Put 0)) (omega (arith, put_labels)) (order_most before (most - 1) [] g s (Put 0) refl fits) (omega (arith, s.aside)) h

pub orders_fill : OrdersFill
unfolding tree_of location binding_bytes le
orders_fill = record { store_reaches = λ n. refl; load_reaches = λ n. refl; second_store_reaches = λ n. refl; second_load_reaches = λ n. refl; records_needed = records_needed; context_needed = context_needed }

pub rooms_by_shape : RoomsByShape
unfolding frame_of edition_of shape_of tree_of location binding_bytes le
rooms_by_shape =
    record {
      variables_256 = (refl, refl);
      variables_512 = (refl, refl);
      context_256 = (refl, refl);
      context_512 = (refl, refl);
      records_256 = refl;
      records_512 = refl;
      second_records_256 = refl;
      second_records_512 = refl;
    }
