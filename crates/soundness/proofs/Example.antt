-- The list that meets the premises: what it acquires, leaves and owes, by computation, and the claim of it.
use mathlib.Core.List.{List, [], ◌∷◌, ◌++◌, append-nil}
use mathlib.Core.Logic.{◌≢◌}
use mathlib.Core.Path.{◌≡◌, refl, sym, ◌∙◌, ap}
use Prim.Native.Nat.{ℕ}
use native.Mathlib.Omega.{arith}
use Rattle.records.specs.Bytes.{le, number}
use Rattle.records.specs.Contexts.{binding_bytes, first_flaw, checked_context}
use Rattle.records.specs.Orders.{order_bytes, order_in, order_of, order_readers, order_ok, order_operands_ok, used_by_order, order_starts}
use Rattle.records.proofs.Conditions.{never}
use Rattle.layout.specs.Config.{base, stack_offset}
use Rattle.layout.proofs.Placing.{base_supported}
use Rattle.layout.specs.Positions.{location}
use Rattle.heap.specs.Blocks.{Cell, cell}
use Rattle.heap.specs.Values.{integer, nil, cons, concat, lengths, Object, HoldAll}
use Rattle.memory.specs.Objects.{object_sizes}
use Rattle.order_spec.specs.Answered.{answer_to}
use Rattle.order_spec.specs.Plain.{plainly}
use Rattle.order_spec.specs.Writes.{tree_of, context_after, present, kinds_ok, asked}
use Rattle.soundness.specs.Claims.{values, acquired, AllOwed, state_after, HeapStaysSoundOnAcquired}
use Rattle.soundness.proofs.Induction.{heap_stays_sound_on_acquired}
use Rattle.soundness.specs.Example.{put_seven, store_one, copy_it, load_shared, drop_it, nothing, load_released, print_it, put_more, store_two, worked_list, worked_values, WorkedListIsSound}

two : acquired base 4 worked_list ≡ 2
unfolding answer_to order_bytes le number checked_context first_flaw binding_bytes order_in order_of order_readers order_ok order_operands_ok used_by_order order_starts tree_of context_after present kinds_ok asked plainly location stack_offset put_seven store_one copy_it load_shared drop_it nothing load_released print_it put_more store_two
two = refl

plain : values base 4 worked_list ≡ worked_values
unfolding answer_to order_bytes le number checked_context first_flaw binding_bytes order_in order_of order_readers order_ok order_operands_ok used_by_order order_starts tree_of context_after present kinds_ok asked plainly location stack_offset put_seven store_one copy_it load_shared drop_it nothing load_released print_it put_more store_two
plain = refl

owed : AllOwed base 4 worked_list
unfolding answer_to order_bytes le number checked_context first_flaw binding_bytes order_in order_of order_readers order_ok order_operands_ok used_by_order order_starts tree_of context_after present kinds_ok asked plainly location stack_offset put_seven store_one copy_it load_shared drop_it nothing load_released print_it put_more store_two
owed =
    ((λ e. (tt, tt)), ((λ e. (tt, tt)), ((λ e. (tt, tt)), ((λ e. ((refl, (refl, tt)), tt)), (never, ((λ e. (tt, tt)), ((λ e. ((refl, (refl, tt)), tt)), ((λ e. (tt, tt)), ((λ e. (tt, tt)), ((λ e. (tt, tt)), tt))))))))))

-- an object of two integers has one block
two_held : (fields : ℕ → List Cell) (c : Cell) (chunks : List (List Cell)) → Object fields c.fst chunks → lengths chunks ≡ 2 ∷ []
    → HoldAll (object_sizes base) fields (cons (integer 7) (cons (integer 120) nil)) (concat chunks) → (c.fst ≢ 0) × (unused : List Cell) × (fields c.fst ≡ unused ++ (cell 0 7 ∷ cell 0 120 ∷ []))
two_held fields c [] o l h = let z : ◌≡◌ {A = ℕ} 0 1 = cc in absurd (omega arith)
two_held fields c (d ∷ e ∷ chunks) o l h = let z : ◌≡◌ {A = ℕ} 0 1 = cc in absurd (omega arith)
two_held fields c (d ∷ []) o l h =
    let first = h.0 in
    let second = h.4.0 in
    let is : d ≡ cell 0 7 ∷ cell 0 120 ∷ []
    = sym (append-nil d) ∙ h.2 ∙ ap (λ (r : List Cell). first ∷ r) (h.4.2 ∙ ap (λ (r : List Cell). second ∷ r) h.4.4)
    ∙ rw (h.3.0, h.3.1, h.4.3.0, h.4.3.1) in
    (o.0, o.1, o.3 ∙ ap (λ (x : List Cell). o.1 ++ x) is)

pub worked_list_is_sound : WorkedListIsSound
unfolding HeapStaysSoundOnAcquired
worked_list_is_sound =
    let a = heap_stays_sound_on_acquired base base_supported 4 worked_list (rw two (omega arith)) (omega arith) owed in
    let s = a.sound.heap in
    let h : HoldAll (object_sizes base) (state_after base 4 worked_list).memory.fields worked_values (state_after base 4 worked_list).variables = rw plain at s.holds in
    let o = h.3 in
    let t = two_held (state_after base 4 worked_list).memory.fields h.0 o.1 o.2 o.4 o.3 in
    record { acquires_two = two; plain_values = plain; after = a; shown = (h.0, h.2 ∙ ap (λ (r : List Cell). h.0 ∷ r) h.4, o.0, t.0, t.1, t.2) }
