-- The claims, by induction over a run of orders.
-- Soundness, values held and the frontier's history go together.
use mathlib.Core.Path.{◌≡◌, refl, ap, ◌∙◌}
use mathlib.Core.Logic.{inl, inr}
use mathlib.Core.List.{List, [], ◌∷◌}
use Prim.Native.Nat.{ℕ, suc, ◌≤◌, ◌<◌}
use native.Mathlib.Decide.{dec_lt}
use native.Mathlib.Omega.{arith}
use lib.ListN.{length}
use Rattle.heap.specs.Blocks.{Layout, pointers, children}
use Rattle.heap.specs.Values.{nil}
use Rattle.heap.specs.Orders.{HeapState, Run, fresh, next, Every, Some}
use Rattle.heap.specs.Claims.{Used, Unused, FirstNeverUsed, AbstractHeapStaysSound, Reaches, ReachesAtMost, Peak, AbstractFrontierIsPeak}
use Rattle.heap.proofs.Invariant.{Consistent, Represents, Advanced}
use Rattle.heap.proofs.CountingLemmas.{occ_length, pointers_length}
use Rattle.heap.proofs.BlockLemmas.{block_above, block_below}
use Rattle.heap.proofs.ReachabilityLemmas.{reachable_is_held, reachable_count_unique}
use Rattle.heap.proofs.SoundLemmas.{sound, sound_refs, sound_lazy, count_bounded, frontier_unique, full_heap}
use Rattle.heap.proofs.RoomLemmas.{reachable_counted}
use Rattle.heap.proofs.GrowthLemmas.{none_reached, nothing_led, reachable_below}
use Rattle.heap.proofs.OrderLemmas.{represents_fresh, represents_order}
use Rattle.heap.proofs.ValueLemmas.{held_plainly}

-- what the induction carries
record Progress (sizes : ℕ → List ℕ) (L : Layout) (past : List HeapState) (now : HeapState) : Type 0 where
  frontier : ℕ
  represents : Represents sizes L now.memory frontier now.variables now.values
  first_never_used : FirstNeverUsed L (now ∷ past) frontier
  peak : ℕ
  is_peak : Peak peak (now ∷ past)
  past_peak : frontier ≡ suc peak

-- states that lead to at most so many blocks lead to at most more
every_at_most : {few most : ℕ} (states : List HeapState) → few ≤ most → Every (ReachesAtMost few) states → Every (ReachesAtMost most) states
every_at_most [] l e = tt
every_at_most (s ∷ states) l e = (λ count r. omega (arith, e.0 count r), every_at_most states l e.1)

-- no state leads to more than a bound of all of them
pub met_within : {peak most : ℕ} (states : List HeapState) → Some (Reaches peak) states → Every (ReachesAtMost most) states → peak ≤ most
met_within [] m e = absurd m
met_within {peak} (s ∷ states) (inl r) e = e.0 peak r
met_within (s ∷ states) (inr m) e = met_within states m e.1

module _ {L : Layout} {linked : ℕ → ℕ} {n : ℕ} (s : HeapState) (g : Consistent L s.memory linked n (pointers s.variables)) where
  -- with no block lazily freed, each block below the frontier is held or on HEAP's list
  all_used : length g.lazy ≡ 0 → (i : ℕ) → i < n → Used L (L.address i) s
  all_used z i l =
      let f = sound g in
      (n, f, omega (arith, f.parts (L.address i), block_below L n i l, occ_length (L.address i) f.lazy, ap length (sound_lazy g)))

  -- none from the frontier up is
  none_used : (i : ℕ) → n ≤ i → Unused L (L.address i) s
  none_used i l m f = let e = frontier_unique f (sound g) in omega (arith, f.parts (L.address i), block_above L m i (omega arith))

-- The frontier has moved: no block but HEAP's is free, so the variables lead to all others, and that is the peak. Or it has not: the peak is the old one.
peak_next : {sizes : ℕ → List ℕ} {L : Layout} {past : List HeapState} {now : HeapState} (s : HeapState) (q : Progress sizes L past now) (a : Advanced sizes L q.frontier s.memory s.variables s.values)
    → (peak : ℕ) × Peak peak (s ∷ now ∷ past) × (a.frontier ≡ suc peak)
peak_next {past} {now} s q a = by (dec_lt q.frontier a.frontier)
  where
    by : Dec (q.frontier < a.frontier) → (peak : ℕ) × Peak peak (s ∷ now ∷ past) × (a.frontier ≡ suc peak)
    by (yes h) =
        let t = full_heap a.represents.consistent (a.only_when_full h) in (
          t.0,
          record { within = (λ count r. omega (arith, reachable_count_unique r t.1), every_at_most (now ∷ past) (omega (arith, q.past_peak, t.2)) q.is_peak.within); met = inl t.1 },
          omega (arith, t.2),
        )
    by (no h) = (
      q.peak,
      record { within = (λ count r. omega (arith, reachable_below a.represents.consistent r, q.past_peak), q.is_peak.within); met = inr q.is_peak.met },
      omega (arith, q.past_peak, a.not_back),
    )

progress_next : {sizes : ℕ → List ℕ} {L : Layout} {past : List HeapState} {now : HeapState} (s : HeapState) (q : Progress sizes L past now) → Advanced sizes L q.frontier s.memory s.variables s.values → Progress sizes L (now ∷ past) s
progress_next {L} {past} {now} s q a =
    let p = peak_next s q a in
    record {
      frontier = a.frontier;
      represents = a.represents;
      first_never_used = record {
        below = λ i l. below i l (dec_lt i q.frontier);
        above = λ i l. (none_used s a.represents.consistent i l, q.first_never_used.above i (omega (arith, a.not_back)));
      };
      peak = p.0;
      is_peak = p.1;
      past_peak = p.2;
    }
  where
    below : (i : ℕ) → i < a.frontier → Dec (i < q.frontier) → Some (Used L (L.address i)) (s ∷ now ∷ past)
    below i l (yes h) = inr (q.first_never_used.below i h)
    below i l (no h) = inl (all_used s a.represents.consistent (omega (arith, a.only_when_full (omega arith))) i l)

progress : {sizes : ℕ → List ℕ} {L : Layout} {past : List HeapState} {now : HeapState} → [] ≡ sizes 0 → Run sizes L past now → Progress sizes L past now
unfolding represents_fresh
progress {sizes} {L} none (fresh {M} f) =
    let s : HeapState = record { memory = M; variables = []; values = nil } in
    let r : Represents sizes L M 1 [] nil = represents_fresh f in
    let g = r.consistent in
    record {
      frontier = 1;
      represents = r;
      first_never_used = record { below = λ i l. inl (all_used s g refl i l); above = λ i l. (none_used s g i l, tt) };
      peak = 0;
      is_peak = record { within = (λ count k. omega (arith, nothing_led M.fields [] (λ b nz. refl) count k), tt); met = inl (none_reached M.fields) };
      past_peak = refl;
    }
progress none (next o r l p) = let q = progress none r in progress_next _ q (represents_order none p l q.represents)

pub abstract_heap_stays_sound : AbstractHeapStaysSound
unfolding AbstractHeapStaysSound
abstract_heap_stays_sound sizes L past now none r =
    let q = progress none r in
    let g = q.represents.consistent in
    let f = sound g in
    let c = reachable_counted g in
    record {
      frontier = q.frontier;
      sound = f;
      first_never_used = q.first_never_used;
      holds = held_plainly sizes now.memory.fields q.represents.linked now.values now.variables q.represents.holds;
      beyond = record {
        links = record { linked = q.represents.linked; one_pointer = λ b nz m. omega (arith, g.one_pointer b nz m, sound_refs g b); holds = q.represents.holds };
        reachable = c.0;
        reachable_count = c.1;
        reachable_unique = λ count k. reachable_count_unique k c.1;
        count_bounded = λ most b h m. omega (arith, pointers_length now.variables, count_bounded most (λ x _. fewer most h x) g.invariant (reachable_is_held g.invariant (λ x. omega (arith, sound_refs g x)) (f.held_reachable b m)));
      };
    }
  where
    fewer : (most : ℕ) → ((x : ℕ) → length (now.memory.fields x) ≤ most) → (x : ℕ) → length (children now.memory.fields x) ≤ most
    fewer most h x = omega (arith, pointers_length (now.memory.fields x), h x)

pub abstract_frontier_is_peak : AbstractFrontierIsPeak
unfolding AbstractFrontierIsPeak
abstract_frontier_is_peak sizes L past now frontier none r f =
    let q = progress none r in
    (q.peak, q.is_peak, frontier_unique f (sound q.represents.consistent) ∙ q.past_peak)
