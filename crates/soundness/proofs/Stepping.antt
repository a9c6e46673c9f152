-- One accepted order, on from a channel: its run ends within its records, and what the induction carries is carried on.
use Rattle.std.specs.Prelude.{Ok, Err}
use mathlib.Core.Bool.{Bool, true, false, cond}
use mathlib.Core.List.{List, [], ◌∷◌, ◌++◌}
use mathlib.Core.Logic.{◌≢◌}
use mathlib.Core.Path.{◌≡◌, refl, sym, ◌∙◌, ap}
use Prim.Native.Nat.{ℕ, ◌+◌, ◌*◌, ◌≤◌, ◌<◌}
use native.Mathlib.Nat.{add-zero}
use native.Mathlib.Omega.{arith}
use borrow.Author.Tests.{ltb-true}
use Rattle.records.specs.Contexts.{ext_at}
use Rattle.records.specs.declared.order.Order.{Order}
use Rattle.records.specs.declared.order.Order.TheVariants.{Put, Compute, Copy, Drop, Store, Load, Print}
use Rattle.records.specs.ReadBack.{joined, code_bytes}
use Rattle.records.proofs.Conditions.{never}
use Rattle.records.proofs.OrdersBack.{order_well_formed}
use Rattle.trees.specs.Tree.{Tree, size, flat}
use Rattle.layout.specs.declared.config.Shape.{Shape}
use Rattle.layout.specs.Config.{positions, most_variables, block_words}
use Rattle.layout.specs.Positions.{location}
use Rattle.print_i64.specs.Print.{print_name}
use Rattle.machine_step.specs.Step.{Config}
use Rattle.machine.specs.declared.run.Stop.TheVariants.{Fault}
use Rattle.machine.specs.Run.{Done, ran, started, starting}
use Rattle.trees_proof.specs.Evaluation.{Evaluated, done, faulted, evaluate}
use Rattle.trees_proof.specs.Claims.{RunAnswers, TreeRunsWhole}
use Rattle.trees_proof.proofs.Trees.{tree_runs_whole}
use Rattle.heap.specs.Claims.{Reaches}
use Rattle.heap.specs.Orders.{HeapState}
use Rattle.heap.specs.Values.{Values, count_of}
use Rattle.layout_proof.specs.Held.{held, Placed}
use Rattle.layout_proof.proofs.Runs.{Does}
use Rattle.memory_proof.proofs.Shown.{heap_of}
use Rattle.memory_proof.proofs.Variables.{variables}
use Rattle.order_formed_proof.proofs.Bytes.{ran_started}
use Rattle.order_formed_proof.proofs.Orders.{order_formed, order_size}
use Rattle.order_context_proof.proofs.After.{count_within, context_after_lem}
use Rattle.print_i64_proof.proofs.Printing.{print_does}
use Rattle.order_spec.specs.Plain.{plainly}
use Rattle.order_spec.specs.Writes.{tree_of, context_after, present, kinds_ok}
use Rattle.order_spec.specs.Answered.{order_is}
use Rattle.order_spec.proofs.Accepting.{Taken}
use Rattle.channel_step.specs.Playing.{Channel}
use Rattle.soundness.specs.Claims.{Item, state_of, Owed, acquires, calls_of, changes}
use Rattle.soundness.proofs.Ending.{heap_ok_lem, Ends, ends}
use Rattle.soundness.proofs.Carried.{Carried, abstractly, BoundedAfter, reaches_on, carried_on, state_same, carried_same}
use Rattle.soundness.proofs.Changing.{integer_held}
use Rattle.soundness.proofs.Appending.{Performed}

no_calls : (o : Order) (vs : Values) → changes o ≡ true → calls_of o vs ≡ []
no_calls (Put value) vs e = refl
no_calls (Compute operation a b) vs e = refl
no_calls (Copy a n) vs e = refl
no_calls Drop vs e = refl
no_calls (Store n tag) vs e = refl
no_calls (Load n) vs e = refl
no_calls (Print newline a) vs e = never e

-- the states before, after an order
abbrev pub past_of : Order → HeapState → List HeapState → List HeapState
past_of o s past = cond (changes o) (s ∷ past) past

module _ (G : Shape) where
  -- where the context has k variables: an order's run, and what holds after it
  module _ (blocks bound bound' : ℕ) (past : List HeapState) (ch : Channel) (vs : Values) (it : Item) where
    abbrev pub O : Order
    O = order_is it.asked

    abbrev pub tree_at : ℕ → Tree
    tree_at k = tree_of G ch.context k it.asked.bindings O

    abbrev pub run_at : ℕ → Done
    run_at k = ran (block_words G) it.words (joined code_bytes (flat (tree_at k) it.asked.counter)) (size (tree_at k)) ch.view

    -- the channel with its context, where its run has left a configuration
    abbrev pub left_by : ℕ → Config → Channel
    left_by k d = record { context = context_after ch.context k it.asked.bindings O; view = d.state }

    pub record SteppedAt (k : ℕ) : Type 0 where
      pub steps : ℕ
      pub within : steps ≤ size (tree_at k)
      pub ended : (run_at k).answer ≡ Ok steps
      pub calls : (run_at k).last.calls ≡ calls_of O vs
      pub carried : Carried G blocks bound' (past_of O (state_of G ch vs) past) (left_by k (run_at k).last) (plainly O vs)
      -- what the tree has done is what the run has left
      pub to : Config
      pub tree : evaluate it.words (tree_at k) (starting ch.view) ≡ done to
      pub left : (run_at k).last ≡ to
      -- a store leaves the variables with the blocks before it and those it acquires; an order that changes nothing leaves the state
      pub reaches : acquires G O ≢ 0 → (n m : ℕ) → Reaches n (state_of G ch vs) → Reaches m (state_of G (left_by k to) (plainly O vs)) → m ≡ n + acquires G O
      pub kept : changes O ≡ false → state_of G (left_by k to) (plainly O vs) ≡ state_of G ch vs

    -- how an order that changes something is known to do so, with the frontier below the bound after it
    abbrev pub Way : Type 0
    Way =
        changes O ≡ true → Does it.words (tree_at (count_of vs)) (starting ch.view)
        (λ d. Performed G blocks (starting ch.view) (abstractly O vs) (ext_at ch.context) (ext_at (context_after ch.context (count_of vs) it.asked.bindings O)) (count_of vs) (count_of (plainly O vs)) d
        × BoundedAfter G vs O (context_after ch.context (count_of vs) it.asked.bindings O) bound' d)

    module _ (f : Carried G blocks bound past ch vs) (w : Taken G ch.context it.asked (count_of vs)) (two : 2 ≤ blocks) where
      -- the tree does not fault, where its records' run does not
      pub not_faulted : ((steps place : ℕ) → (run_at (count_of vs)).answer ≢ Err (Fault steps place)) → (d : Config) × (evaluate it.words (tree_at (count_of vs)) (starting ch.view) ≡ done d)
      unfolding TreeRunsWhole
      not_faulted n = by (evaluate it.words (tree_at (count_of vs)) (starting ch.view)) (tree_runs_whole it.words (tree_at (count_of vs)) it.asked.counter 0 ch.view)
        where
          whole : (k : ℕ) → run_at (count_of vs) ≡ started it.words (flat (tree_at (count_of vs)) it.asked.counter) (size (tree_at (count_of vs)) + 0) ch.view
          whole k =
              ran_started (block_words G) it.words (tree_at (count_of vs)) it.asked.counter (size (tree_at (count_of vs))) ch.view
              (order_formed G f.placed.shape ch.context (count_of vs) it.asked.bindings O (order_well_formed it.asked.order w.starts it.bytes_of_order)) w.labelled
              (order_size G f.placed.shape ch.context (count_of vs) it.asked.bindings O w.there w.placed) (heap_ok_lem G blocks ch.view f.placed two)
              ∙ ap (λ (m : ℕ). started it.words (flat (tree_at (count_of vs)) it.asked.counter) m ch.view) (sym (add-zero (size (tree_at (count_of vs)))))

          by : (o : Evaluated) → RunAnswers (size (tree_at (count_of vs))) (started it.words (flat (tree_at (count_of vs)) it.asked.counter) (size (tree_at (count_of vs)) + 0) ch.view) o → (d : Config) × (o ≡ done d)
          by (done d) a = (d, refl)
          by (faulted d) a = absurd (n a.0 a.1 (ap (λ (d : Done). d.answer) (whole 0 ∙ a.5)))

    module _ (f : Carried G blocks bound past ch vs) (w : Taken G ch.context it.asked (count_of vs)) (owed : Owed it.asked.bindings O vs) (grows : bound ≤ bound') (two : 2 ≤ blocks) (way : Way) where
      -- the tree's run, from what the tree does
      ended_by : {Q : Config → Type 0} → Does it.words (tree_at (count_of vs)) (starting ch.view) Q → Ends G it.words (tree_at (count_of vs)) it.asked.counter ch.view Q
      ended_by d =
          ends G it.asked.counter (order_formed G f.placed.shape ch.context (count_of vs) it.asked.bindings O (order_well_formed it.asked.order w.starts it.bytes_of_order)) w.labelled
          (order_size G f.placed.shape ch.context (count_of vs) it.asked.bindings O w.there w.placed) (heap_ok_lem G blocks ch.view f.placed two) d

      changed : changes O ≡ true → SteppedAt (count_of vs)
      changed e =
          let r = ended_by (way e) in
          let o = owed.0 in
          let c = context_after_lem ch.context it.asked.bindings (count_of vs) vs refl f.places f.kinds (positions G) O (omega (arith, f.placed.shape.frame)) w.bindings_good w.there w.placed o in
          let n = count_within ch.context it.asked.bindings (count_of vs) vs refl (positions G) (most_variables G) O (omega arith) (omega (arith, f.few)) w.there w.placed o in
          record {
            steps = r.steps;
            within = r.within;
            ended = ap (λ (d : Done). d.answer) r.run;
            calls = ap (λ (d : Done). d.last.calls) r.run ∙ r.post.0.quiet ∙ sym (no_calls O vs e);
            carried = rw (e, r.run) (carried_on G f it.asked.bindings O e owed (context_after ch.context (count_of vs) it.asked.bindings O) bound' c.0 c.1 (omega (arith, n, f.placed.shape.even)) r.last r.post.0 r.post.1);
            to = r.last;
            tree = r.tree;
            left = ap (λ (d : Done). d.last) r.run;
            reaches = reaches_on G f it.asked.bindings O e owed (context_after ch.context (count_of vs) it.asked.bindings O) c.0 r.last r.post.0;
            kept = λ z. never (sym z ∙ e);
          }

      abbrev Prints : Bool → ℕ → Config → Type 0
      Prints newline a d =
          (variables (ext_at ch.context) d 0 (count_of vs) ≡ variables (ext_at ch.context) (starting ch.view) 0 (count_of vs)) × (heap_of G d ≡ heap_of G (starting ch.view)) × Placed G blocks d
          × (d.calls ≡ [] ++ (record { name = print_name newline; number = held (starting ch.view) (location (2 * a + 1)) } ∷ []))

      printed : (newline : Bool) (a : ℕ) → O ≡ Print newline a → SteppedAt (count_of vs)
      unfolding tree_of present kinds_ok context_after plainly
      printed newline a e =
          let h : a < count_of vs = ltb-true a (count_of vs) (rw e at w.there) in
          let x : ext_at ch.context a ≡ true = rw e at w.of_kind in
          let d : Does it.words (tree_at (count_of vs)) (starting ch.view) (Prints newline a)
          = rw e (print_does it.words (ext_at ch.context) newline (starting ch.view) (count_of vs) a f.placed h f.few x) in
          let r = ended_by d in
          let q = r.post in
          record {
            steps = r.steps;
            within = r.within;
            ended = ap (λ (d : Done). d.answer) r.run;
            calls = ap (λ (d : Done). d.last.calls) r.run ∙ q.3 ∙ rw (e, integer_held G it.words f it.asked.bindings a h x);
            carried = rw (r.run, e) (carried_same G f bound' grows r.last q.0 q.1 q.2);
            to = r.last;
            tree = r.tree;
            left = ap (λ (d : Done). d.last) r.run;
            reaches = λ z. absurd (z (rw e));
            kept = λ z. rw e (state_same G f bound' grows r.last q.0 q.1);
          }

      pub stepped : SteppedAt (count_of vs)
      stepped = by O refl
        where
          by : (o : Order) → O ≡ o → SteppedAt (count_of vs)
          by (Put value) e = changed (rw e)
          by (Compute operation a b) e = changed (rw e)
          by (Copy a n) e = changed (rw e)
          by Drop e = changed (rw e)
          by (Store n tag) e = changed (rw e)
          by (Load n) e = changed (rw e)
          by (Print newline a) e = printed newline a e
