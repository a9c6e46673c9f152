-- A list that met no fault on some heap stays sound on every heap of two blocks more than its peak there: beside either heap its orders leave the same words.
use mathlib.Core.Bool.{Bool, true, false}
use mathlib.Core.List.{List, [], ◌∷◌}
use mathlib.Core.Logic.{◌≢◌}
use mathlib.Core.Path.{◌≡◌, refl, sym, ◌∙◌, ap, subst, fun_ext}
use Prim.Native.Nat.{ℕ, suc, ◌+◌, ◌*◌, ◌≤◌}
use native.Mathlib.Omega.{arith}
use lib.ListN.{replicate, length-replicate}
use Rattle.records.proofs.Conditions.{never}
use Rattle.trees.specs.Tree.{Tree}
use Rattle.layout.specs.declared.config.Shape.{Shape}
use Rattle.layout.specs.Config.{Supported, block_words}
use Rattle.machine_step.specs.Step.{Config}
use Rattle.machine_step.specs.View.{words_of}
use Rattle.trees_proof.specs.Evaluation.{done, evaluate}
use Rattle.trees_proof.proofs.Lengths.{beside, resized, evaluate_sizes}
use Rattle.heap.specs.Claims.{Reaches, ReachesAtMost}
use Rattle.heap.specs.Orders.{Every}
use Rattle.order_spec.specs.Answered.{order_is, places_in, order_context}
use Rattle.order_spec.specs.Plain.{plainly}
use Rattle.order_spec.specs.Writes.{tree_of}
use Rattle.channel_step.specs.Playing.{Channel, is_accepted}
use Rattle.soundness.specs.Claims.{Item, acquires, changes, state_of, reached, values, state_after, states_before, AllOwed, PeakWithin, HeapStaysSound}
use Rattle.soundness.specs.Peak.{Unfaulted, PeakIsEnough}
use Rattle.soundness.proofs.Induction.{zeros, StepOn, heap_stays_sound, unfaulted_before, stepped_by_runs, owed_by_runs, left_by_runs, stepped_by_peak}
use Rattle.machine.specs.Run.{starting}

-- where an accepted order's run has left a configuration
abbrev left_by : Channel → Item → Config → Channel
left_by ch it d = record { context = order_context ch.context it.asked; view = d.state }

module _ (G : Shape) (sup : Supported G) where
  -- the tree of an order on a channel
  abbrev tree_on : Channel → Item → Tree
  tree_on ch it = tree_of G ch.context (places_in ch.context) it.asked.bindings (order_is it.asked)

  reached_is : {bound bound' : ℕ} (blocks : ℕ) (it : Item) (its : List Item) → is_accepted G (reached G blocks its) it.asked ≡ true → (s : StepOn G sup blocks bound bound' it its) → reached G blocks (it ∷ its) ≡ left_by (reached G blocks its) it s.to
  reached_is blocks it its e s = rw (e, s.left)

  state_is : {bound bound' : ℕ} (blocks : ℕ) (it : Item) (its : List Item) → is_accepted G (reached G blocks its) it.asked ≡ true → (s : StepOn G sup blocks bound bound' it its)
      → state_after G blocks (it ∷ its) ≡ state_of G (left_by (reached G blocks its) it s.to) (plainly (order_is it.asked) (values G blocks its))
  state_is blocks it its e s = rw (e, s.left)

  module _ (blocks fitted peak : ℕ) (most : fitted ≤ 1048576) (enough : 2 + peak ≤ fitted) where
    -- no state so far leads to more than the peak
    abbrev SoFar : List Item → Type 0
    SoFar its = Every (ReachesAtMost peak) (state_after G blocks its ∷ states_before G blocks its)

    so_far_before : (it : Item) (its : List Item) → Unfaulted G blocks (it ∷ its) → SoFar (it ∷ its) → SoFar its
    so_far_before it its u h = by (is_accepted G (reached G blocks its) it.asked) refl
      where
        changing : (q : Bool) → changes (order_is it.asked) ≡ q → is_accepted G (reached G blocks its) it.asked ≡ true → SoFar its
        changing true c e = (rw (e, c) at h).1
        changing false c e =
            let s = stepped_by_runs G sup blocks it its u e in
            (subst (ReachesAtMost peak) (state_is blocks it its e s ∙ s.kept c) h.0, (rw (e, c) at h).1)

        by : (q : Bool) → is_accepted G (reached G blocks its) it.asked ≡ q → SoFar its
        by true e = changing (changes (order_is it.asked)) refl e
        by false e = rw e at h

    -- what an accepted store of some counts is within the peak, since the variables lead to as many blocks after it
    counted : (it : Item) (its : List Item) → Unfaulted G blocks (it ∷ its) → SoFar (it ∷ its) → is_accepted G (reached G blocks its) it.asked ≡ true → acquires G (order_is it.asked) ≢ 0
        → (count : ℕ) → Reaches count (state_after G blocks its) → count + acquires G (order_is it.asked) ≤ peak
    counted it its u h e some count r =
        let s = stepped_by_runs G sup blocks it its u e in
        let after = (left_by_runs G sup blocks (it ∷ its) u).heap in
        omega (arith, h.0 after.beyond.reachable after.beyond.reachable_count, s.reaches some count after.beyond.reachable r (subst (Reaches after.beyond.reachable) (state_is blocks it its e s) after.beyond.reachable_count))

    -- a channel beside the fitted heap
    abbrev refitted : Channel → Channel
    refitted ch = record { context = ch.context; view = beside (block_words G * fitted) ch.view }

    record Fitted (its : List Item) : Type 0 where
      channel : reached G fitted its ≡ refitted (reached G blocks its)
      same_values : values G fitted its ≡ values G blocks its
      within : PeakWithin G fitted peak its
      owed : AllOwed G fitted its

    first : reached G fitted [] ≡ refitted (reached G blocks [])
    first =
        let m : words_of (replicate (block_words G * fitted) 0) ≡ words_of (replicate (block_words G * blocks) 0) = fun_ext (λ i. zeros (block_words G * fitted) i ∙ sym (zeros (block_words G * blocks) i)) in
        rw (m, length-replicate {A = ℕ} (block_words G * fitted) 0)

    module _ (it : Item) (its : List Item) (u : Unfaulted G blocks (it ∷ its)) (h : SoFar (it ∷ its)) (a : Fitted its) where
      accepted_alike : (q : Bool) → is_accepted G (reached G blocks its) it.asked ≡ q → is_accepted G (reached G fitted its) it.asked ≡ q
      accepted_alike q e = ap (λ (ch : Channel). is_accepted G ch it.asked) a.channel ∙ e

      refused : is_accepted G (reached G blocks its) it.asked ≡ false → Fitted (it ∷ its)
      refused e =
          let f = accepted_alike false e in
          record {
            channel = rw (e, f) a.channel;
            same_values = rw (e, f) a.same_values;
            within = (λ t. never (sym f ∙ t), a.within);
            owed = (λ t. never (sym f ∙ t), a.owed);
          }

      accepted : is_accepted G (reached G blocks its) it.asked ≡ true → Fitted (it ∷ its)
      accepted e = record {
        channel = reached_is fitted it its f t ∙ ap (λ (ch : Channel). left_by ch it t.to) a.channel ∙ ap (left_by (refitted (reached G blocks its)) it) ends_alike ∙ ap refitted (sym (reached_is blocks it its e s));
        same_values = rw (e, f, a.same_values);
        within = within;
        owed = owed;
      }
        where
          f : is_accepted G (reached G fitted its) it.asked ≡ true
          f = accepted_alike true e

          s : StepOn G sup blocks (suc blocks) (suc blocks) it its
          s = stepped_by_runs G sup blocks it its u e

          within : PeakWithin G fitted peak (it ∷ its)
          within = (λ _ some count r. counted it its u h e some count (subst (λ (ch : Channel). Reaches count (state_of G ch (values G fitted its))) a.channel r), a.within)

          owed : AllOwed G fitted (it ∷ its)
          owed = (λ _. rw a.same_values (owed_by_runs G sup blocks it its u e), a.owed)

          t : StepOn G sup fitted fitted fitted it its
          t = stepped_by_peak G sup fitted peak most enough it its within owed f

          ends_alike : t.to ≡ resized (block_words G * fitted) s.to
          ends_alike =
              evaluate_sizes it.words (tree_on (reached G blocks its) it) (block_words G * fitted) (starting (reached G blocks its).view) s.to t.to s.tree
              (subst (λ (ch : Channel). evaluate it.words (tree_on ch it) (starting ch.view) ≡ done t.to) a.channel t.tree)

    fitted_on : (its : List Item) → Unfaulted G blocks its → SoFar its → Fitted its
    fitted_on [] u h = record { channel = first; same_values = refl; within = tt; owed = tt }
    fitted_on (it ∷ its) u h = by (is_accepted G (reached G blocks its) it.asked) refl (fitted_on its (unfaulted_before G sup blocks u) (so_far_before it its u h))
      where
        by : (q : Bool) → is_accepted G (reached G blocks its) it.asked ≡ q → Fitted its → Fitted (it ∷ its)
        by true e a = accepted it its u h a e
        by false e a = refused it its u h a e

pub peak_is_enough : PeakIsEnough
unfolding PeakIsEnough HeapStaysSound
peak_is_enough g sup blocks peak fitted its u p enough most =
    let f = fitted_on g sup blocks fitted peak most enough its u p.within in
    (heap_stays_sound g sup fitted peak its f.within enough most f.owed, f.same_values)
