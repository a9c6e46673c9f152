-- How much heap to fit: the frontier against the most blocks that the variables led to at once, by runs that met no fault on however many blocks there are.
-- The frontier is the number of blocks below it. The lists, the states and the heap after a list are those of demand 3's claim.
use Rattle.std.specs.Prelude.{ℕ, suc, ◌+◌, ◌≤◌, ◌≡◌, ◌≢◌, true, List, [], ◌∷◌, Err}
use Rattle.layout.specs.declared.config.Shape.{Shape}
use Rattle.layout.specs.Config.{Supported, base}
use Rattle.machine.specs.declared.run.Stop.TheVariants.{Fault}
use Rattle.heap.specs.Words.{layout}
use Rattle.heap.specs.Claims.{HeapAfter, ReachesAtMost, Peak}
use Rattle.memory.specs.Objects.{object_sizes}
use Rattle.order_spec.specs.Answered.{order_is}
use Rattle.order_spec.specs.Plain.{OwedKinds}
use Rattle.soundness.specs.Claims.{Item, reached, values, state_after, AllOwed, PeakWithin, states_before, After}
use Rattle.channel_step.specs.Playing.{is_accepted, run_of}

module _ (g : Shape) where
  module _ (blocks : ℕ) where
    -- no accepted order's run has met a fault
    abbrev pub NoFault : List Item → Type 0
    NoFault [] = Unit {0}
    NoFault (it ∷ its) = (is_accepted g (reached g blocks its) it.asked ≡ true → (steps place : ℕ) → (run_of g (reached g blocks its) it.asked it.words).answer ≢ Err (Fault steps place)) × NoFault its

    -- each accepted load names the kinds that its object was stored with
    abbrev pub LoadsOwed : List Item → Type 0
    LoadsOwed [] = Unit {0}
    LoadsOwed (it ∷ its) = (is_accepted g (reached g blocks its) it.asked ≡ true → OwedKinds it.asked.bindings (order_is it.asked) (values g blocks its)) × LoadsOwed its

    -- after any one order so far the variables lead to at most so many blocks
    abbrev pub ReachesWithin : ℕ → List Item → Type 0
    ReachesWithin peak [] = Unit {0}
    ReachesWithin peak (it ∷ its) = ReachesAtMost peak (state_after g blocks (it ∷ its)) × ReachesWithin peak its

    -- the heap after a list, as demand 3 has it
    abbrev pub HeapAfterList : List Item → Type 0
    HeapAfterList its = HeapAfter (object_sizes g) (layout g.fields) (states_before g blocks its) (state_after g blocks its)

    -- the most blocks that the variables led to in any state so far; in the fresh one they lead to none
    abbrev pub PeakOf : List Item → ℕ → Type 0
    PeakOf its peak = Peak peak (state_after g blocks its ∷ states_before g blocks its)

    -- a list whose runs met no fault, each load naming its kinds, on a heap that the machine takes
    pub record Unfaulted (its : List Item) : Type 0 where
      pub two : 2 ≤ blocks
      pub most : blocks ≤ 1048576
      pub no_fault : NoFault its
      pub loads : LoadsOwed its

  -- the blocks below the frontier are at most one more than the most reachable after any one order so far
  abbrev pub FrontierWithin : Type 0
  FrontierWithin =
      (blocks peak : ℕ) (its : List Item) → Unfaulted blocks its → ReachesWithin blocks peak its → (h : HeapAfterList blocks its) × (h.frontier ≤ suc peak) × (h.frontier ≤ blocks)

  -- and just one more than that number
  abbrev pub FrontierIs : Type 0
  FrontierIs = (blocks : ℕ) (its : List Item) → Unfaulted blocks its → (h : HeapAfterList blocks its) × (peak : ℕ) × PeakOf blocks its peak × (h.frontier ≡ suc peak)

-- in every supported shape
unfoldable pub FrontierWithinPeakOfLists : Type 0
FrontierWithinPeakOfLists = (g : Shape) → Supported g → FrontierWithin g

unfoldable pub FrontierIsPeak : Type 0
FrontierIsPeak = (g : Shape) → Supported g → FrontierIs g

-- A list that met no fault on some heap stays sound on every heap of two blocks more than its peak there, and holds the same values.
unfoldable pub PeakIsEnough : Type 0
PeakIsEnough =
    (g : Shape) → Supported g → (blocks peak fitted : ℕ) (its : List Item) → Unfaulted g blocks its → PeakOf g blocks its peak → 2 + peak ≤ fitted → fitted ≤ 1048576
    → After g fitted its × (values g fitted its ≡ values g blocks its)

-- One block fewer is too few: the heap statement on one block more than the peak is refuted, in the base shape.
unfoldable pub OneFewerIsTooFew : Type 0
OneFewerIsTooFew = ((blocks peak : ℕ) (its : List Item) → PeakWithin base blocks peak its → 2 ≤ blocks → 1 + peak ≤ blocks → blocks ≤ 1048576 → AllOwed base blocks its → After base blocks its) → ⊥
