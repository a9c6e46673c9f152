-- What the induction over a list of items carries, and how an order that changes something carries it on.
use Rattle.std.specs.Prelude.{Ok}
use mathlib.Core.Bool.{true}
use mathlib.Core.List.{List, ◌∷◌}
use mathlib.Core.Logic.{◌≢◌}
use mathlib.Core.Path.{◌≡◌, refl, sym, ◌∙◌, ap, subst}
use Prim.Native.Nat.{ℕ, suc, ◌+◌, ◌-◌, ◌*◌, ◌≤◌, ◌<◌}
use native.Mathlib.Omega.{arith}
use lib.ListN.{length}
use Rattle.records.specs.declared.order.Order.{Order}
use Rattle.records.specs.declared.order.Order.TheVariants.{Put, Compute, Copy, Drop, Store, Load, Print}
use Rattle.records.specs.Contexts.{checked_context, ext_at, bindings_in}
use Rattle.records.proofs.Conditions.{never}
use Rattle.layout.specs.declared.config.Shape.{Shape}
use Rattle.layout.specs.Config.{positions}
use Rattle.machine_step.specs.Step.{Config}
use Rattle.heap.specs.Blocks.{pointers}
use Rattle.heap.specs.Claims.{AbstractHeapStaysSound, HeapAfter, Reaches}
use Rattle.heap.proofs.GrowthLemmas.{Bounded, represents_bounded, store_reaches}
use Rattle.heap.specs.Reachability.{ReachableCount}
use Rattle.heap.proofs.Invariant.{Represents}
use Rattle.heap.proofs.OrderLemmas.{stored_by}
use Rattle.heap.proofs.RunLemmas.{abstract_heap_stays_sound}
use Rattle.heap.proofs.SoundLemmas.{sound, frontier_unique}
use Rattle.heap.specs.Orders as abstract
use Rattle.heap.specs.Orders.{HeapState, Run, plain, Legal}
use Rattle.heap.specs.Values.{integer, object, Value, Values, count_of, value_at, KindsFrom}
use Rattle.layout_proof.specs.Held.{Placed}
use Rattle.memory_proof.proofs.Acquiring.{Within}
use Rattle.memory_proof.proofs.Shown.{L, heap_of}
use Rattle.memory_proof.proofs.Variables.{variables}
use Rattle.memory.specs.Objects.{object_sizes}
use Rattle.order_spec.specs.Answered.{places_in}
use Rattle.order_spec.specs.Plain.{integer_of, plainly, AsStored, OwedKinds}
use Rattle.word.specs.Results.{result}
use Rattle.channel_step.specs.Playing.{Channel}
use Rattle.soundness.specs.Claims.{state_of, SoundAt, acquires, changes, Owed}
use Rattle.soundness.proofs.Appending.{Performed}
use Rattle.soundness.proofs.Rooms.{represents_within}
use Rattle.machine.specs.Run.{starting}

-- the abstract heap's order; compute puts its result
abbrev pub abstractly : Order → Values → abstract.HeapOrder
abstractly (Put value) vs = abstract.put value
abstractly (Compute operation a b) vs = abstract.put (result operation (integer_of (value_at a vs)) (integer_of (value_at b vs)))
abstractly (Copy a n) vs = abstract.copy a n
abstractly Drop vs = abstract.drop
abstractly (Store n tag) vs = abstract.store n tag
abstractly (Load n) vs = abstract.load n
abstractly (Print newline a) vs = abstract.drop

-- both take the same step
pub plain_same : (o : Order) (vs : Values) → changes o ≡ true → plain (abstractly o vs) vs ≡ plainly o vs
unfolding plain plainly
plain_same (Put value) vs e = refl
plain_same (Compute operation a b) vs e = refl
plain_same (Copy a n) vs e = refl
plain_same Drop vs e = refl
plain_same (Store n tag) vs e = refl
plain_same (Load n) vs e = refl
plain_same (Print newline a) vs e = never e

object_is : (bindings : List ℕ) (n : ℕ) (v : Value) → AsStored bindings n v → (tag : ℕ) × (ws : Values) × (v ≡ object tag ws) × (count_of ws ≡ n)
object_is bindings n (integer w) a = absurd a
object_is bindings n (object tag ws) a = (tag, ws, refl, a.0)

-- what the user owes is what the abstract heap asks
pub legal : (bindings : List ℕ) (o : Order) (vs : Values) → changes o ≡ true → OwedKinds bindings o vs → Legal (abstractly o vs) vs
unfolding Legal
legal bindings (Put value) vs e w = tt
legal bindings (Compute operation a b) vs e w = tt
legal bindings (Copy a n) vs e w = tt
legal bindings Drop vs e w = tt
legal bindings (Store n tag) vs e w = tt
legal bindings (Load n) vs e w = object_is bindings n (value_at (count_of vs - 1) vs) w
legal bindings (Print newline a) vs e w = never e

-- how many variables a context has
pub places_are : (context : List ℕ) (k : ℕ) → checked_context context ≡ Ok k → places_in context ≡ k
places_are context k e = ap bindings_in e

module _ (G : Shape) where
  -- for a channel beside the plain machine's values, with the frontier below a bound, and the states before
  pub record Carried (blocks bound : ℕ) (past : List HeapState) (ch : Channel) (vs : Values) : Type 0 where
    pub places : checked_context ch.context ≡ Ok (count_of vs)
    pub kinds : KindsFrom (ext_at ch.context) 0 vs
    pub few : 2 * count_of vs < positions G
    pub placed : Placed G blocks (starting ch.view)
    pub frontier : ℕ
    pub low : frontier < bound
    pub represents : Represents (object_sizes G) (L G) (heap_of G (starting ch.view)) frontier (variables (ext_at ch.context) (starting ch.view) 0 (count_of vs)) vs
    pub run : Run (object_sizes G) (L G) past (state_of G ch vs)

  -- what is carried is what is claimed of the channel, where the bound is within the heap
  pub heap_after : {blocks bound : ℕ} {past : List HeapState} {ch : Channel} {vs : Values} (f : Carried blocks bound past ch vs) → (s : HeapAfter (object_sizes G) (L G) past (state_of G ch vs)) × (s.frontier < bound)
  unfolding AbstractHeapStaysSound
  heap_after {past} {ch} {vs} f =
      let s : HeapAfter (object_sizes G) (L G) past (state_of G ch vs) = abstract_heap_stays_sound (object_sizes G) (L G) past (state_of G ch vs) refl f.run in
      let e = frontier_unique s.sound (sound f.represents.consistent) in
      let low = f.low in
      (s, omega arith)

  pub sound_at : {blocks bound : ℕ} {past : List HeapState} {ch : Channel} {vs : Values} → Carried blocks bound past ch vs → bound ≤ blocks → SoundAt G blocks past ch vs
  sound_at f fits =
      let s = heap_after f in
      record { places = f.places; kinds = f.kinds; heap = s.0; frontier_there = omega (arith, s.1); whole = f.placed.words; stack_there = f.placed.stack; stack_whole = f.placed.deep }

  stored_blocks : (o : Order) (vs : Values) → length (object_sizes G (stored_by (abstractly o vs))) ≡ acquires G o
  stored_blocks (Put value) vs = refl
  stored_blocks (Compute operation a b) vs = refl
  stored_blocks (Copy a n) vs = refl
  stored_blocks Drop vs = refl
  stored_blocks (Store n tag) vs = refl
  stored_blocks (Load n) vs = refl
  stored_blocks (Print newline a) vs = refl

  state_is : (ch : Channel) (k : ℕ) (vs ws : Values) → places_in ch.context ≡ k → vs ≡ ws
      → ◌≡◌ {A = HeapState} (record { memory = heap_of G (starting ch.view); variables = variables (ext_at ch.context) (starting ch.view) 0 k; values = vs }) (state_of G ch ws)
  state_is ch k vs ws e f = rw (e, f)

  -- a bound leaves room for the blocks that the variables lead to before an order, and those that it acquires
  abbrev pub Room : Channel → Values → Order → ℕ → Type 0
  Room ch vs o bound =
      (count : ℕ) → ReachableCount (heap_of G (starting ch.view)).fields (pointers (variables (ext_at ch.context) (starting ch.view) 0 (count_of vs))) count → suc (count + acquires G o) < bound

  -- the variables hold the plain machine's values after an order, and the frontier is below a bound
  abbrev pub BoundedAfter : Values → Order → List ℕ → ℕ → Config → Type 0
  BoundedAfter vs o context bound d = Bounded (object_sizes G) (L G) bound (heap_of G d) (variables (ext_at context) d 0 (count_of (plainly o vs))) (plain (abstractly o vs) vs)

  -- an order that changes something, on from a channel
  module _ {blocks bound : ℕ} {past : List HeapState} {ch : Channel} {vs : Values} (f : Carried blocks bound past ch vs) (bindings : List ℕ) (o : Order) (changing : changes o ≡ true) (owed : Owed bindings o vs) (context : List ℕ) where
    abbrev Did : Config → Type 0
    Did d = Performed G blocks (starting ch.view) (abstractly o vs) (ext_at ch.context) (ext_at context) (count_of vs) (count_of (plainly o vs)) d

    -- with room for what is reachable before it and what it acquires
    pub bounded_by_room : (bound' : ℕ) → bound ≤ bound' → Room ch vs o bound' → (d : Config) → Did d → BoundedAfter vs o context bound' d
    bounded_by_room bound' grows room d p =
        let low = f.low in
        represents_bounded refl bound' (omega arith) p.performs (legal bindings o vs changing owed.0) f.represents (λ count k. omega (arith, stored_blocks o vs, room count k))

    -- with FREE within the heap
    pub bounded_by_run : f.frontier ≤ blocks → (d : Config) → Did d → (stored_by (abstractly o vs) ≢ 0 → Within G blocks (heap_of G d).lazy_head) → BoundedAfter vs o context (suc blocks) d
    bounded_by_run le d p free = represents_within G le p.performs (legal bindings o vs changing owed.0) f.represents free

    -- a store leaves the variables with the blocks that they led to before it and those it acquires
    pub reaches_on : checked_context context ≡ Ok (count_of (plainly o vs)) → (d : Config) → Did d → acquires G o ≢ 0
        → (n m : ℕ) → Reaches n (state_of G ch vs) → Reaches m (state_of G (record { context = context; view = d.state }) (plainly o vs)) → m ≡ n + acquires G o
    reaches_on good d p some n m a b =
        let before : ReachableCount (heap_of G (starting ch.view)).fields (pointers (variables (ext_at ch.context) (starting ch.view) 0 (count_of vs))) n = rw (places_are ch.context (count_of vs) f.places) at a in
        let after : ReachableCount (heap_of G d).fields (pointers (variables (ext_at context) d 0 (count_of (plainly o vs)))) m = rw (places_are context (count_of (plainly o vs)) good) at b in
        omega (arith, store_reaches p.performs (λ e. some (sym (stored_blocks o vs) ∙ ap (λ (k : ℕ). length (object_sizes G k)) e)) f.represents before after, stored_blocks o vs)

    pub carried_on : (bound' : ℕ) → checked_context context ≡ Ok (count_of (plainly o vs)) → KindsFrom (ext_at context) 0 (plainly o vs) → 2 * count_of (plainly o vs) < positions G
        → (d : Config) → Did d → BoundedAfter vs o context bound' d → Carried blocks bound' (state_of G ch vs ∷ past) (record { context = context; view = d.state }) (plainly o vs)
    carried_on bound' good same-kinds few d p b =
        let next : Channel = record { context = context; view = d.state } in
        record {
          places = good;
          kinds = same-kinds;
          few = few;
          placed = p.placed;
          frontier = b.frontier;
          low = b.below;
          represents = rw (plain_same o vs changing) at b.represents;
          run = subst (λ (s : HeapState). Run (object_sizes G) (L G) (state_of G ch vs ∷ past) s) (state_is next (count_of (plainly o vs)) (plain (abstractly o vs) vs) (plainly o vs) (places_are context (count_of (plainly o vs)) good) (plain_same o vs changing))
              (abstract.next (abstractly o vs) f.run (legal bindings o vs changing owed.0) (rw (places_are ch.context (count_of vs) f.places) p.performs));
        }

  -- a print, which leaves variables and heap as they were
  module _ {blocks bound : ℕ} {past : List HeapState} {ch : Channel} {vs : Values} (f : Carried blocks bound past ch vs) (bound' : ℕ) (grows : bound ≤ bound') where
    pub state_same : (d : Config) → variables (ext_at ch.context) d 0 (count_of vs) ≡ variables (ext_at ch.context) (starting ch.view) 0 (count_of vs) → heap_of G d ≡ heap_of G (starting ch.view)
        → state_of G (record { context = ch.context; view = d.state }) vs ≡ state_of G ch vs
    state_same d v h = rw (places_are ch.context (count_of vs) f.places, h, v)

    pub carried_same : (d : Config) → variables (ext_at ch.context) d 0 (count_of vs) ≡ variables (ext_at ch.context) (starting ch.view) 0 (count_of vs) → heap_of G d ≡ heap_of G (starting ch.view) → Placed G blocks d
        → Carried blocks bound' past (record { context = ch.context; view = d.state }) vs
    carried_same d v h p =
        let next : Channel = record { context = ch.context; view = d.state } in
        let e = places_are ch.context (count_of vs) f.places in
        record {
          places = f.places;
          kinds = f.kinds;
          few = f.few;
          placed = p;
          frontier = f.frontier;
          low = let l = f.low in omega arith;
          represents = rw (h, v) f.represents;
          run = subst (λ (s : HeapState). Run (object_sizes G) (L G) past s) (rw (e, h, v)) f.run;
        }
