-- From an order's bytes to its answer and its two outputs.
use Rattle.order_spec.specs.declared.answer.OrderRefusal.{OrderRefusal}
use Rattle.layout.specs.declared.config.Unshaped.{Unshaped}
use Rattle.std.specs.Prelude.{Err, Ok, Result}
use Prim.Native.Nat.{ℕ}
use mathlib.Core.Path.{◌≡◌, refl, sym, ap, ◌∙◌}
use mathlib.Core.Bool.{true, false, cond}
use mathlib.Core.List.{List, []}
use lib.Dec.{eqb}
use lib.ListN.{length}
use lib.Seq.{sets}
use borrow.Author.Tests.{eq-eqb, ne_eqb}
use Rattle.records.specs.declared.context.Flaw.{Flaw}
use Rattle.records.specs.declared.order.Order.{Order}
use Rattle.records.specs.Contexts.{checked_context, counted_on, bindings_in}
use Rattle.records.specs.Orders.{order_of, order_in, order_starts, wanted}
use Rattle.records.specs.ReadBack.{joined, code_bytes}
use Rattle.records.proofs.Conditions.{never}
use Rattle.trees.specs.Tree.{flat}
use Rattle.layout.specs.declared.config.Shape.{Shape}
use Rattle.layout.specs.declared.config.Unshaped.TheVariants.{NoFrame, NoEdition}
use Rattle.layout.specs.Config.{in_shape}
use Rattle.order_spec.specs.declared.answer.OrderRefusal.TheVariants.{Context, Malformed, Frame}
use Rattle.order_spec.specs.Answered.{Asked, order_answer_cause, order_accepted, order_is, places_in, decided, answer_to, unframed_order, answer_in, OrderAnswer}
use Rattle.order.specs.Answers.{asking, AnswersOrder}
use Rattle.order.specs.Begun.{Read, Unread, Begins}
use Rattle.order.specs.declared.order.Work.{Work}
use Rattle.order.specs.Decided.{tree, after, fits, judged, LeavesOrder}

-- 15 to 17 and 2, whatever follows
module _ (context order bindings : List ℕ) where
  pub context_bad : (flaw : Flaw) → checked_context context ≡ Err flaw → Unread context order bindings (Context flaw)
  context_bad flaw e = record { comes = λ answer. rw e }

  module _ (k : ℕ) (h : checked_context context ≡ Ok k) where
    pub bindings_bad : (flaw : Flaw) → counted_on k (checked_context bindings) ≡ Err flaw → Unread context order bindings (Context flaw)
    bindings_bad flaw e = record { comes = λ answer. rw (h, e) }

    module _ (m : ℕ) (b : checked_context bindings ≡ Ok m) where
      pub order_bad : order_starts order ≡ false → Unread context order bindings (Malformed 1)
      order_bad e = record { comes = λ answer. rw (h, b, e) }

      module _ (s : order_starts order ≡ true) {o : Order} (e : o ≡ order_of (order_in order)) where
        pub number_bad : (m ≡ wanted o → ⊥) → Unread context order bindings (Malformed 1)
        number_bad n = record { comes = λ answer. rw (h, b, s, ne_eqb m (wanted (order_of (order_in order))) (λ z. n (z ∙ ap wanted (sym e)))) }

        module _ (w : m ≡ wanted o) where
          same_number : eqb m (wanted (order_of (order_in order))) ≡ true
          same_number = eq-eqb m (wanted (order_of (order_in order))) (w ∙ ap wanted e)

          pub surplus : (length order ≡ 24 → ⊥) → Unread context order bindings (Malformed 2)
          surplus n = record { comes = λ answer. rw (h, b, s, same_number, ne_eqb (length order) 24 n) }

          pub well_read : length order ≡ 24 → Read context order bindings k o
          well_read l =
              record {
                context_good = h;
                bindings_good = b ∙ ap Ok w;
                is_order = e;
                comes = λ answer. rw (h, b, s, same_number, eq-eqb (length order) 24 l);
              }

-- by how it begins
module _ {context order bindings : List ℕ} {r : Result (ℕ × Order) OrderRefusal} (b : Begins context order bindings r) where
  pub begun_with : {k : ℕ} {o : Order} → r ≡ Ok (k, o) → Read context order bindings k o
  begun_with e = rw e at b

  pub begun_refused : {refusal : OrderRefusal} → r ≡ Err refusal → Unread context order bindings refusal
  begun_refused e = rw e at b

-- an order that is refused with 15 to 17 or 2, and one that is read, where there is no such frame
module _ {context order bindings : List ℕ} where
  pub unread_unframed : {refusal : OrderRefusal} → Unread context order bindings refusal → Err refusal ≡ unframed_order context (asking order bindings 0 [] [])
  unfolding unframed_order
  unread_unframed u = sym (u.comes (λ k. Err Frame))

  pub read_unframed : {k : ℕ} {o : Order} → Read context order bindings k o → Err Frame ≡ unframed_order context (asking order bindings 0 [] [])
  unfolding unframed_order
  read_unframed u = sym (u.comes (λ k. Err Frame))

-- a refusal leaves both outputs
pub unanswered : {context : List ℕ} {q : Asked} {o a : List ℕ} {refusal : OrderRefusal} (f : Result Shape Unshaped) → Err refusal ≡ answer_in f context q
    → AnswersOrder f context q (Err refusal) o o a a
unanswered (Ok g) e = record { answer = e; cause = ap order_answer_cause e; records = rw (← e); after = rw (← e) }
unanswered (Err NoFrame) e = record { answer = e; cause = ap order_answer_cause e; records = refl; after = refl }
unanswered (Err NoEdition) e = record { answer = e; cause = ap order_answer_cause e; records = refl; after = refl }

-- where there is no such frame, the counter and the outputs do not matter
pub unframed_answered : {context : List ℕ} (q : Asked) {o a : List ℕ} {refusal : OrderRefusal} → Err refusal ≡ unframed_order context (asking q.order q.bindings 0 [] [])
    → AnswersOrder (Err NoFrame) context q (Err refusal) o o a a
unfolding unframed_order
unframed_answered q e = unanswered (Err NoFrame) e

-- in a shape
module _ (G : Shape) (c : List ℕ) (q : Asked) where
  pub unread_answered : {o₁ c₁ : List ℕ} {refusal : OrderRefusal} → Unread c q.order q.bindings refusal → AnswersOrder (Ok G) c q (Err refusal) o₁ o₁ c₁ c₁
  unfolding answer_to
  unread_answered u = unanswered (Ok G) (sym (u.comes (λ k. decided G c k q)))

  module _ {k : ℕ} {o : Order} (u : Read c q.order q.bindings k o) where
    abbrev work : ℕ → Order → Work
    work n x = record { k = n; counter = q.counter; order = x }

    as_judged : judged G c q.bindings (work k o) q.records_room q.context_room ≡ answer_to G c q
    unfolding answer_to judged fits
    as_judged = ap (λ (x : Order). judged G c q.bindings (work k x) q.records_room q.context_room) u.is_order ∙ sym (u.comes (λ k. decided G c k q))

    -- the order in record 1, on as many variables as the context has
    as_read : work k o ≡ work (places_in c) (order_is q)
    as_read = ap (work k) u.is_order ∙ ap (λ (z : Result ℕ Flaw). work (bindings_in z) (order_is q)) (sym u.context_good)

    abbrev output : OrderAnswer → List ℕ → List ℕ → List ℕ
    output x o w = cond (order_accepted x) (sets o 0 w) o

    pub answered : {r : OrderAnswer} {o₁ o₂ c₁ c₂ : List ℕ}
        → LeavesOrder G c q.bindings (work k o) (judged G c q.bindings (work k o) q.records_room q.context_room) r o₁ o₂ c₁ c₂ → AnswersOrder (Ok G) c q r o₁ o₂ c₁ c₂
    answered {o₁ = o₁} {c₁ = c₁} d =
        let e = d.answer ∙ as_judged in
        record {
          answer = e;
          cause = ap order_answer_cause e;
          records = d.records ∙ rw as_judged (ap (λ (w : Work). output (answer_to G c q) o₁ (joined code_bytes (flat (tree G c q.bindings w) w.counter))) as_read);
          after = d.context_then ∙ rw as_judged (ap (λ (w : Work). output (answer_to G c q) c₁ (after G c q.bindings w)) as_read);
        }

-- an order that is not read, in an edition that there is
pub unread_shaped : (f : Result Shape Unshaped) → (f ≡ Err NoEdition → ⊥) → (c : List ℕ) (q : Asked) {o₁ c₁ : List ℕ} {refusal : OrderRefusal} → Unread c q.order q.bindings refusal
    → AnswersOrder f c q (Err refusal) o₁ o₁ c₁ c₁
unread_shaped (Ok G) there c q u = unread_answered G c q u
unread_shaped (Err NoFrame) there c q u = unframed_answered q (unread_unframed u)
unread_shaped (Err NoEdition) there c q u = absurd (there refl)

-- whether there is such an edition
pub no_edition : (f : Result Shape Unshaped) → in_shape f (λ g. true) true false ≡ false → f ≡ Err NoEdition
no_edition (Ok G) e = never (sym e)
no_edition (Err NoFrame) e = never (sym e)
no_edition (Err NoEdition) e = refl

pub some_edition : (f : Result Shape Unshaped) → in_shape f (λ g. true) true false ≡ true → f ≡ Err NoEdition → ⊥
some_edition f e z = never (rw z at e)
