-- The claims, by one induction over the list of items: what is granted of a list, and how that makes each accepted order do what it names, are its parameters.
use Rattle.std.specs.Prelude.{Err, Ok}
use mathlib.Core.Bool.{Bool, true, false, ◌&&◌}
use mathlib.Core.Logic.{◌≢◌}
use mathlib.Core.List.{List, [], ◌∷◌}
use mathlib.Core.Path.{◌≡◌, refl, sym, subst}
use Prim.Native.Nat.{ℕ, zero, suc, ◌+◌, ◌*◌, ◌≤◌, ◌<◌}
use native.Mathlib.Decide.{ℕ_discrete}
use native.Mathlib.Nat.{zero-add}
use native.Mathlib.Omega.{arith}
use lib.Dec.{eqb}
use lib.ListN.{replicate, length-replicate}
use Rattle.records.specs.declared.order.Order.{Order}
use Rattle.records.specs.Contexts.{ext_at}
use Rattle.records.proofs.Conditions.{never, both_ways}
use Rattle.machine_step.specs.View.{words_of}
use Rattle.machine_step.specs.Step.{Config}
use Rattle.heap.specs.Blocks.{pointers}
use Rattle.heap.specs.Claims.{Reaches, ReachesAtMost, AbstractFrontierIsPeak}
use Rattle.heap.proofs.GrowthLemmas.{nothing_led, reachable_below}
use Rattle.heap.proofs.OrderLemmas.{represents_fresh}
use Rattle.heap.specs.Orders as abstract
use Rattle.heap.specs.Orders.{Run, Fresh, Every}
use Rattle.heap.specs.Reachability.{ReachableCount}
use Rattle.heap.proofs.RunLemmas.{met_within, abstract_frontier_is_peak}
use Rattle.heap.specs.Values.{nil, count_of}
use Rattle.heap.specs.Words.{by_address, word_at, headers, address_of, block_number}
use Rattle.layout.specs.declared.config.Shape.{Shape}
use Rattle.layout.specs.Config.{Supported, frame_of, edition_of, shape_of, stack_depth, block_words}
use Rattle.layout.proofs.Placing.{no_frame, no_edition, shaped_supported}
use Rattle.machine.specs.declared.run.Stop.TheVariants.{Fault}
use Rattle.machine.specs.Run.{starting}
use Rattle.trees_proof.specs.Evaluation.{done, evaluate}
use Rattle.layout_proof.proofs.Runs.{so}
use Rattle.memory_proof.proofs.Attempting.{surely, unless_faulted}
use Rattle.memory_proof.proofs.Shown.{L, heap_of}
use Rattle.memory_proof.proofs.Variables.{variables}
use Rattle.order_spec.specs.Writes.{tree_of, context_after}
use Rattle.order_spec.specs.Answered.{order_accepted, order_is, places_in, answer_to, order_counter_after, OrderAnswer}
use Rattle.order_spec.specs.Plain.{OwedKinds}
use Rattle.order_spec.proofs.Accepting.{Taken, taken}
use Rattle.memory.specs.Objects.{object_sizes}
use Rattle.order_context_proof.proofs.Bindings.{good_none}
use Rattle.channel_step.specs.Playing.{Channel, fresh, is_accepted, run_of}
use Rattle.soundness.specs.Claims.{Item, reached, values, acquired, changes, PeakWithin, AllOwed, state_after, states_before, SoundChannel, SoundBefore, AllRan, Refused, AllRefused, After, HeapStaysSound, HeapStaysSoundOnAcquired, acquires, Owed}
use Rattle.soundness.specs.Peak.{NoFault, LoadsOwed, ReachesWithin, HeapAfterList, PeakOf, Unfaulted, FrontierWithinPeakOfLists, FrontierIsPeak}
use Rattle.soundness.specs.Shapes.{EveryShapeStaysSound}
use Rattle.soundness.proofs.Carried.{Carried, heap_after, sound_at, Room, bounded_by_room, bounded_by_run, places_are}
use Rattle.soundness.proofs.Changing.{changing_tries, result_by_run}
use Rattle.soundness.proofs.Stepping.{SteppedAt, Way, run_at, not_faulted, stepped}

-- a zeroed heap
pub zeros : (n i : ℕ) → words_of (replicate n 0) i ≡ 0
zeros zero i = refl
zeros (suc n) zero = refl
zeros (suc n) (suc i) = zeros n i

module _ (G : Shape) (sup : Supported G) where
  zeroed : (n b : ℕ) → headers G.fields (words_of (replicate n 0)) b ≡ 0
  unfolding headers by_address
  zeroed n b = both_ways (λ (w : ℕ). w ≡ 0) (eqb (address_of G.fields (block_number G.fields b)) b) (zeros n (word_at G.fields (block_number G.fields b) 0)) refl

  -- a refused order
  refused : (ch : Channel) (it : Item) → is_accepted G ch it.asked ≡ false → Refused G ch it
  refused ch it e = record { channel_kept = rw e; records_kept = λ o. rw e; context_kept = λ o. rw e; counter_kept = by (answer_to G ch.context it.asked) e }
    where
      by : (r : OrderAnswer) → order_accepted r ≡ false → order_counter_after it.asked.counter r ≡ it.asked.counter
      by (Ok a) e = never (sym e)
      by (Err refusal) e = refl

  all_refused : (blocks : ℕ) (its : List Item) → AllRefused G blocks its
  all_refused blocks [] = tt
  all_refused blocks (it ∷ its) = (refused (reached G blocks its) it, all_refused blocks its)

  -- an accepted item's step, from a bound of the frontier to another
  abbrev pub StepOn : (blocks bound bound' : ℕ) → Item → List Item → Type 0
  StepOn blocks bound bound' it its = SteppedAt G blocks bound bound' (states_before G blocks its) (reached G blocks its) (values G blocks its) it (places_in (reached G blocks its).context)

  module _ (blocks : ℕ) (most : blocks ≤ 1048576) where
    first : Fresh (L G) (heap_of G (starting (fresh G blocks).view))
    first = record { zeroed = zeroed (block_words G * blocks); first = omega arith; second = omega arith }

    none_yet : (bound : ℕ) → 2 ≤ bound → Carried G blocks bound [] (fresh G blocks) nil
    none_yet bound two = record {
      places = good_none;
      kinds = tt;
      few = omega arith;
      placed = record { shape = sup; stack = refl; deep = length-replicate {A = ℕ} (stack_depth G) 0; words = length-replicate {A = ℕ} (block_words G * blocks) 0; fits = most };
      frontier = 1;
      low = omega arith;
      represents = represents_fresh first;
      run = subst (λ (k : ℕ). Run (object_sizes G) (L G) [] (record { memory = heap_of G (starting (fresh G blocks).view); variables = variables (ext_at []) (starting (fresh G blocks).view) 0 k; values = nil })) (sym (places_are [] 0 good_none)) (abstract.fresh first);
    }

    -- what the induction carries after a list, for a bound
    abbrev CarriedAt : ℕ → List Item → Type 0
    CarriedAt bound its = Carried G blocks bound (states_before G blocks its) (reached G blocks its) (values G blocks its)

    abbrev TakenAt : Item → List Item → Type 0
    TakenAt it its = Taken G (reached G blocks its).context it.asked (count_of (values G blocks its))

    abbrev OwedAt : Item → List Item → Type 0
    OwedAt it its = Owed it.asked.bindings (order_is it.asked) (values G blocks its)

    abbrev WayAt : ℕ → ℕ → Item → List Item → Type 0
    WayAt bound bound' it its = Way G blocks bound bound' (states_before G blocks its) (reached G blocks its) (values G blocks its) it

    -- The frontier's bound after each list, what is granted of it, and what follows of an accepted order: what is owed, and that it does what it names.
    record Grants : Type 1 where
      bound : List Item → ℕ
      granted : List Item → Type 0
      before : (it : Item) (its : List Item) → granted (it ∷ its) → granted its
      two : (its : List Item) → 2 ≤ bound its
      blocks_two : (its : List Item) → granted its → 2 ≤ blocks
      grows : (it : Item) (its : List Item) → bound its ≤ bound (it ∷ its)
      refused : (it : Item) (its : List Item) → is_accepted G (reached G blocks its) it.asked ≡ false → bound (it ∷ its) ≡ bound its
      owed : (it : Item) (its : List Item) → granted (it ∷ its) → is_accepted G (reached G blocks its) it.asked ≡ true → TakenAt it its → CarriedAt (bound its) its → OwedAt it its
      way : (it : Item) (its : List Item) → granted (it ∷ its) → is_accepted G (reached G blocks its) it.asked ≡ true → TakenAt it its → CarriedAt (bound its) its → WayAt (bound its) (bound (it ∷ its)) it its

    module _ (g : Grants) where
      -- an accepted item
      step : (it : Item) (its : List Item) → is_accepted G (reached G blocks its) it.asked ≡ true → g.granted (it ∷ its) → CarriedAt (g.bound its) its → StepOn blocks (g.bound its) (g.bound (it ∷ its)) it its
      step it its e h f =
          let t = taken G (reached G blocks its).context it.asked (count_of (values G blocks its)) f.places e in
          subst (λ (k : ℕ). SteppedAt G blocks (g.bound its) (g.bound (it ∷ its)) (states_before G blocks its) (reached G blocks its) (values G blocks its) it k)
          (sym (places_are (reached G blocks its).context (count_of (values G blocks its)) f.places))
          (stepped G blocks (g.bound its) (g.bound (it ∷ its)) (states_before G blocks its) (reached G blocks its) (values G blocks its) it f t
          (g.owed it its h e t f) (g.grows it its) (g.blocks_two (it ∷ its) h) (g.way it its h e t f))

      carried : (its : List Item) → g.granted its → CarriedAt (g.bound its) its
      carried [] h = none_yet (g.bound []) (g.two [])
      carried (it ∷ its) h = by (is_accepted G (reached G blocks its) it.asked) refl (carried its (g.before it its h))
        where
          by : (q : Bool) → is_accepted G (reached G blocks its) it.asked ≡ q → CarriedAt (g.bound its) its → CarriedAt (g.bound (it ∷ its)) (it ∷ its)
          by true e f = rw e (step it its e h f).carried
          by false e f = rw (e, g.refused it its e) f

      sound_channel : (its : List Item) → g.granted its → g.bound its ≤ blocks → SoundChannel G blocks its
      sound_channel its h fits = sound_at G (carried its h) fits

      sound_before : (its : List Item) → g.granted its → g.bound its ≤ blocks → SoundBefore G blocks its
      sound_before [] h fits = tt
      sound_before (it ∷ its) h fits =
          let h' = g.before it its h in
          let fits' : g.bound its ≤ blocks = omega (arith, g.grows it its) in
          (sound_channel its h' fits', sound_before its h' fits')

      all_ran : (its : List Item) → g.granted its → AllRan G blocks its
      all_ran [] h = tt
      all_ran (it ∷ its) h = (
        (λ e.
            let s = step it its e h (carried its (g.before it its h)) in
            record { steps = s.steps; within = s.within; ended = s.ended; calls = s.calls }),
        all_ran its (g.before it its h),
      )

      after : (its : List Item) → g.granted its → g.bound its ≤ blocks → After G blocks its
      after its h fits = record { sound = sound_channel its h fits; sound_before = sound_before its h fits; ran = all_ran its h; refused = all_refused blocks its }

    -- with room for what is reachable and what is acquired
    roomed : (bound bound' : ℕ) (it : Item) (its : List Item) → bound ≤ bound' → bound' ≤ blocks → TakenAt it its → OwedAt it its → (f : CarriedAt bound its) → Room G (reached G blocks its) (values G blocks its) (order_is it.asked) bound'
        → WayAt bound bound' it its
    roomed bound bound' it its grows fits t owed f room changing =
        let low : f.frontier < blocks = omega (arith, f.low) in
        so (surely (λ o. o (λ count k. omega (arith, room count k)) low)
        (changing_tries G it.words f it.asked.bindings (omega arith) (order_is it.asked) changing t.there t.of_kind t.placed owed))
        (λ d x. (x.0, bounded_by_room G f it.asked.bindings (order_is it.asked) changing owed (context_after (reached G blocks its).context (count_of (values G blocks its)) it.asked.bindings (order_is it.asked)) bound' grows room d x.0))

    -- two more than the blocks acquired
    by_acquired : Grants
    by_acquired = record {
      bound = λ its. 2 + acquired G blocks its;
      granted = λ its. (2 + acquired G blocks its ≤ blocks) × AllOwed G blocks its;
      before = λ it its h. (omega (arith, h.0), h.1.1);
      two = λ its. omega arith;
      blocks_two = λ its h. omega (arith, h.0);
      grows = λ it its. omega arith;
      refused = λ it its e. rw (e, zero-add (acquired G blocks its));
      owed = λ it its h e t f. h.1.0 e;
      way = λ it its h e t f. roomed (2 + acquired G blocks its) (2 + acquired G blocks (it ∷ its)) it its (omega arith) h.0 t (h.1.0 e) f
          (λ count k. rw e (let low = f.low in omega (arith, reachable_below f.represents.consistent k)));
    }

    -- room within the peak: a store of some has it by the premise, and any other order wants none
    pub peak_room : (peak : ℕ) (o : Order) (its : List Item) → 2 + peak ≤ blocks → (acquires G o ≢ 0 → (count : ℕ) → Reaches count (state_after G blocks its) → count + acquires G o ≤ peak) → CarriedAt blocks its
        → Room G (reached G blocks its) (values G blocks its) o blocks
    peak_room peak o its enough h f count k = by (ℕ_discrete (acquires G o) 0)
      where
        by : Dec (acquires G o ≡ 0) → suc (count + acquires G o) < blocks
        by (yes z) = let low = f.low in omega (arith, reachable_below f.represents.consistent k)
        by (no z) = omega (arith, h z count (rw (places_are (reached G blocks its).context (count_of (values G blocks its)) f.places) k))

    -- two more than the peak
    by_peak : (peak : ℕ) → 2 + peak ≤ blocks → Grants
    by_peak peak enough = record {
      bound = λ its. blocks;
      granted = λ its. PeakWithin G blocks peak its × AllOwed G blocks its;
      before = λ it its h. (h.0.1, h.1.1);
      two = λ its. omega arith;
      blocks_two = λ its h. omega arith;
      grows = λ it its. omega arith;
      refused = λ it its e. refl;
      owed = λ it its h e t f. h.1.0 e;
      way = λ it its h e t f. roomed blocks blocks it its (omega arith) (omega arith) t (h.1.0 e) f (peak_room peak (order_is it.asked) its enough (h.0.0 e) f);
    }

    -- by runs that meet no fault
    tree_done : (it : Item) (its : List Item) → 2 ≤ blocks → ((steps place : ℕ) → (run_of G (reached G blocks its) it.asked it.words).answer ≢ Err (Fault steps place)) → TakenAt it its → (f : CarriedAt (suc blocks) its)
        → (d : Config) × (evaluate it.words (tree_of G (reached G blocks its).context (count_of (values G blocks its)) it.asked.bindings (order_is it.asked)) (starting (reached G blocks its).view) ≡ done d)
    tree_done it its two n t f =
        not_faulted G blocks (suc blocks) (suc blocks) (states_before G blocks its) (reached G blocks its) (values G blocks its) it f t two
        (subst (λ (k : ℕ). (steps place : ℕ) → (run_at G blocks (suc blocks) (suc blocks) (states_before G blocks its) (reached G blocks its) (values G blocks its) it k).answer ≢ Err (Fault steps place))
        (places_are (reached G blocks its).context (count_of (values G blocks its)) f.places) n)

    owed_by_run : (it : Item) (its : List Item) → 2 ≤ blocks → ((steps place : ℕ) → (run_of G (reached G blocks its) it.asked it.words).answer ≢ Err (Fault steps place)) → OwedKinds it.asked.bindings (order_is it.asked) (values G blocks its)
        → TakenAt it its → CarriedAt (suc blocks) its → OwedAt it its
    owed_by_run it its two n kinds t f =
        let d = tree_done it its two n t f in
        (kinds, result_by_run G it.words f it.asked.bindings (order_is it.asked) t.there t.of_kind t.placed d.0 d.1)

    by_runs : 2 ≤ blocks → Grants
    by_runs two = record {
      bound = λ its. suc blocks;
      granted = λ its. NoFault G blocks its × LoadsOwed G blocks its;
      before = λ it its h. (h.0.1, h.1.1);
      two = λ its. omega arith;
      blocks_two = λ its h. two;
      grows = λ it its. omega arith;
      refused = λ it its e. refl;
      owed = λ it its h e t f. owed_by_run it its two (h.0.0 e) (h.1.0 e) t f;
      way = λ it its h e t f changing.
          let d = tree_done it its two (h.0.0 e) t f in
          let owed = owed_by_run it its two (h.0.0 e) (h.1.0 e) t f in
          let le : f.frontier ≤ blocks = omega (arith, f.low) in
          so (unless_faulted (changing_tries G it.words f it.asked.bindings le (order_is it.asked) changing t.there t.of_kind t.placed owed) d.1)
          (λ u x. (x.0, bounded_by_run G f it.asked.bindings (order_is it.asked) changing owed (context_after (reached G blocks its).context (count_of (values G blocks its)) it.asked.bindings (order_is it.asked)) le u x.0 x.1));
    }

    -- the fresh state's variables lead to nothing
    first_reaches : (peak : ℕ) → ReachesAtMost peak (state_after G blocks [])
    first_reaches peak =
        subst (λ (k : ℕ). (count : ℕ) → ReachableCount (heap_of G (starting (fresh G blocks).view)).fields (pointers (variables (ext_at []) (starting (fresh G blocks).view) 0 k)) count → count ≤ peak)
        (sym (places_are [] 0 good_none)) (λ count k. omega (arith, nothing_led _ [] (λ b nz. refl) count k))

    -- the states so far are the fresh one and those after the orders
    every : (peak : ℕ) (its : List Item) → ReachesWithin G blocks peak its → Every (ReachesAtMost peak) (state_after G blocks its ∷ states_before G blocks its)
    every peak [] h = (first_reaches peak, tt)
    every peak (it ∷ its) h =
        let e = every peak its h.1 in
        (h.0, both_ways (Every (ReachesAtMost peak)) (is_accepted G (reached G blocks its) it.asked && changes (order_is it.asked)) e e.1)

  -- what is carried after a list, under the premises of either claim
  pub carried_within_peak : (blocks peak : ℕ) (its : List Item) → PeakWithin G blocks peak its → 2 + peak ≤ blocks → blocks ≤ 1048576 → AllOwed G blocks its
      → Carried G blocks blocks (states_before G blocks its) (reached G blocks its) (values G blocks its)
  unfolding by_peak
  carried_within_peak blocks peak its h enough most w = carried blocks most (by_peak blocks most peak enough) its (h, w)

  pub carried_on_acquired : (blocks : ℕ) (its : List Item) → 2 + acquired G blocks its ≤ blocks → blocks ≤ 1048576 → AllOwed G blocks its
      → Carried G blocks (2 + acquired G blocks its) (states_before G blocks its) (reached G blocks its) (values G blocks its)
  unfolding by_acquired
  carried_on_acquired blocks its h most w = carried blocks most (by_acquired blocks most) its (h, w)

  -- Lists whose runs met no fault: what is carried along them, an accepted order's step, what was owed it, and the heap after them.
  module _ (blocks : ℕ) where
    pub unfaulted_before : {it : Item} {its : List Item} → Unfaulted G blocks (it ∷ its) → Unfaulted G blocks its
    unfaulted_before u = record { two = u.two; most = u.most; no_fault = u.no_fault.1; loads = u.loads.1 }

    carried_by_runs : (its : List Item) → Unfaulted G blocks its → Carried G blocks (suc blocks) (states_before G blocks its) (reached G blocks its) (values G blocks its)
    unfolding by_runs
    carried_by_runs its u = carried blocks u.most (by_runs blocks u.most u.two) its (u.no_fault, u.loads)

    pub stepped_by_runs : (it : Item) (its : List Item) → Unfaulted G blocks (it ∷ its) → is_accepted G (reached G blocks its) it.asked ≡ true → StepOn blocks (suc blocks) (suc blocks) it its
    unfolding by_runs
    stepped_by_runs it its u e = step blocks u.most (by_runs blocks u.most u.two) it its e (u.no_fault, u.loads) (carried_by_runs its (unfaulted_before u))

    pub owed_by_runs : (it : Item) (its : List Item) → Unfaulted G blocks (it ∷ its) → is_accepted G (reached G blocks its) it.asked ≡ true → Owed it.asked.bindings (order_is it.asked) (values G blocks its)
    owed_by_runs it its u e =
        let f = carried_by_runs its (unfaulted_before u) in
        owed_by_run blocks u.most it its u.two (u.no_fault.0 e) (u.loads.0 e) (taken G (reached G blocks its).context it.asked (count_of (values G blocks its)) f.places e) f

    -- what they leave: the heap, with the frontier within it and one past the peak
    pub record LeftByRuns (its : List Item) : Type 0 where
      pub heap : HeapAfterList G blocks its
      pub within : heap.frontier ≤ blocks
      pub peak : ℕ
      pub is_peak : PeakOf G blocks its peak
      pub past_peak : heap.frontier ≡ suc peak
      pub whole : (reached G blocks its).view.size ≡ block_words G * blocks

    pub left_by_runs : (its : List Item) → Unfaulted G blocks its → LeftByRuns its
    unfolding AbstractFrontierIsPeak by_runs
    left_by_runs its u =
        let f = carried_by_runs its u in
        let s = heap_after G f in
        let p = abstract_frontier_is_peak (object_sizes G) (L G) (states_before G blocks its) (state_after G blocks its) s.0.frontier refl f.run s.0.sound in
        record { heap = s.0; within = omega (arith, s.1); peak = p.0; is_peak = p.1; past_peak = p.2; whole = f.placed.words }

  -- a step on a heap of two blocks more than the peak
  pub stepped_by_peak : (blocks peak : ℕ) → blocks ≤ 1048576 → 2 + peak ≤ blocks → (it : Item) (its : List Item) → PeakWithin G blocks peak (it ∷ its) → AllOwed G blocks (it ∷ its) → is_accepted G (reached G blocks its) it.asked ≡ true
      → StepOn blocks blocks blocks it its
  unfolding by_peak
  stepped_by_peak blocks peak most enough it its h w e =
      let g = by_peak blocks most peak enough in
      step blocks most g it its e (h, w) (carried blocks most g its (h.1, w.1))

pub heap_stays_sound : HeapStaysSound
unfolding HeapStaysSound by_peak
heap_stays_sound g sup blocks peak its h enough most w = after g sup blocks most (by_peak g sup blocks most peak enough) its (h, w) (omega arith)

pub heap_stays_sound_on_acquired : HeapStaysSoundOnAcquired
unfolding HeapStaysSoundOnAcquired by_acquired
heap_stays_sound_on_acquired g sup blocks its h most w = after g sup blocks most (by_acquired g sup blocks most) its (h, w) h

pub frontier_is_peak : FrontierIsPeak
unfolding FrontierIsPeak
frontier_is_peak g sup blocks its u = let s = left_by_runs g sup blocks its u in (s.heap, s.peak, s.is_peak, s.past_peak)

pub frontier_within_peak_of_lists : FrontierWithinPeakOfLists
unfolding FrontierWithinPeakOfLists
frontier_within_peak_of_lists g sup blocks peak its u e =
    let s = left_by_runs g sup blocks its u in
    (s.heap, omega (arith, s.past_peak, met_within (state_after g blocks its ∷ states_before g blocks its) s.is_peak.met (every g sup blocks u.most peak its e)), s.within)

pub every_shape_stays_sound : EveryShapeStaysSound
unfolding HeapStaysSound HeapStaysSoundOnAcquired FrontierIsPeak FrontierWithinPeakOfLists shape_of edition_of frame_of
every_shape_stays_sound =
    record {
      stay_sound = λ edition frame g e. let sup = shaped_supported edition frame e in (heap_stays_sound g sup, heap_stays_sound_on_acquired g sup);
      at_peak = λ edition frame g e. let sup = shaped_supported edition frame e in (frontier_within_peak_of_lists g sup, frontier_is_peak g sup);
      first_256 = refl;
      first_512 = refl;
      second_256 = refl;
      second_512 = refl;
      no_edition = λ edition frame n m. rw (← (no_edition edition n m));
      no_frame = λ frame n m. (rw (← (no_frame frame n m)), rw (← (no_frame frame n m)));
    }
