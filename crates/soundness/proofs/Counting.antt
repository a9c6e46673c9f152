-- The walks over first words come to the lists of a sound heap.
use Prim.Native.Nat.{ℕ, zero, suc, ◌+◌, ◌*◌, ◌-◌, ◌/◌, ◌≤◌}
use mathlib.Core.Path.{◌≡◌, refl, ap}
use mathlib.Core.Logic.{◌≢◌}
use mathlib.Core.List.{List, ◌++◌}
use native.Mathlib.Nat.{mul-div_cancel_left}
use native.Mathlib.Omega.{arith}
use lib.ListN.{length, length-append}
use Rattle.layout.specs.declared.config.Shape.{Shape}
use Rattle.layout.specs.Config.{block_words, HEAP, FREE}
use Rattle.heap.specs.Counting.{occ}
use Rattle.heap.proofs.CountingLemmas.{occ_append, length_le}
use Rattle.heap.specs.Blocks.{Layout, blocks}
use Rattle.heap.proofs.BlockLemmas.{block_nonzero}
use Rattle.heap.specs.Words.{headers, memory_of, layout}
use Rattle.heap.proofs.WordLemmas.{number_of_address}
use Rattle.heap.specs.Claims.{Sound}
use Rattle.heap_chains.specs.Blocks.{chain_length, chain_end, blocks_counted, fit_for, fit_in}
use Rattle.heap_chains.proofs.Walks.{list_is, chain_is}
use Rattle.soundness.specs.Claims.{reached}
use Rattle.soundness.specs.Counts.{CountsAreTrue, fit_on, FitIsForPeak}
use Rattle.soundness.proofs.Induction.{left_by_runs}

blocks_long : (L : Layout) (n : ℕ) → length (blocks L n) ≡ n
blocks_long L zero = refl
blocks_long L (suc n) = ap suc (blocks_long L n)

module _ (field_count : ℕ) (words : ℕ → ℕ) (linear_head lazy_head frontier all : ℕ) (roots : List ℕ) (s : Sound (layout field_count) (memory_of field_count words linear_head lazy_head) frontier roots) (below : frontier ≤ all) where
  abbrev three : List ℕ
  three = s.linear ++ (s.lazy ++ s.held)

  occurs : (b : ℕ) → occ b three ≡ occ b (blocks (layout field_count) frontier)
  occurs b = omega (arith, occ_append b s.linear (s.lazy ++ s.held), occ_append b s.lazy s.held, s.parts b)

  in_all : length s.linear + length s.lazy + length s.held ≡ frontier
  in_all =
      let a = length_le three (blocks (layout field_count) frontier) (λ b. omega (arith, occurs b)) in
      let b = length_le (blocks (layout field_count) frontier) three (λ b. omega (arith, occurs b)) in
      omega (arith, blocks_long (layout field_count) frontier, length-append s.linear (s.lazy ++ s.held), length-append s.lazy s.held)

  not_null : (b : ℕ) → occ b s.linear + occ b s.lazy ≢ 0 → b ≢ 0
  not_null b n = block_nonzero (layout field_count) frontier b (omega (arith, s.parts b))

  -- FREE's chain ends at the frontier
  chain : (chain_length (headers field_count words) all lazy_head ≡ length s.lazy) × (chain_end (headers field_count words) all lazy_head ≡ (layout field_count).address frontier)
  chain =
      let n = in_all in
      let z = s.untouched frontier (omega arith) in
      chain_is (headers field_count words) s.lazy lazy_head ((layout field_count).address frontier) all s.lazy_chain (λ b o. not_null b (omega arith)) ((layout field_count).nonzero frontier) z (omega arith)

  pub counts : blocks_counted field_count all words linear_head lazy_head ≡ record { linear = length s.linear; lazy = length s.lazy; held = length s.held; untouched = all - frontier }
  unfolding blocks_counted
  counts =
      let n = in_all in
      let a = list_is (headers field_count words) s.linear linear_head all s.linear_chain (λ b o. not_null b (omega arith)) (omega arith) in
      let h : frontier - length s.linear - length s.lazy ≡ length s.held = omega arith in
      rw (a, chain.0, chain.1, number_of_address field_count frontier, h)

  pub fit : fit_in field_count all words lazy_head ≡ fit_for field_count (frontier - 1)
  unfolding fit_in
  fit = rw (chain.1, number_of_address field_count frontier)

-- a heap of so many blocks
all_blocks : (g : Shape) (blocks : ℕ) {size : ℕ} → size ≡ block_words g * blocks → size / block_words g ≡ blocks
all_blocks g blocks e = rw e (mul-div_cancel_left blocks (omega arith))

pub counts_are_true : CountsAreTrue
unfolding CountsAreTrue
counts_are_true g blocks its s =
    let v = (reached g blocks its).view in
    rw (all_blocks g blocks s.whole) (counts g.fields v.mem (v.reg HEAP) (v.reg FREE) s.heap.frontier blocks _ s.heap.sound (let l = s.frontier_there in omega arith))

pub fit_is_for_peak : FitIsForPeak
unfolding FitIsForPeak
fit_is_for_peak g sup blocks its u =
    let s = left_by_runs g sup blocks its u in
    let v = (reached g blocks its).view in
    let one : s.heap.frontier - 1 ≡ s.peak = omega (arith, s.past_peak) in
    let told : fit_on g v ≡ fit_for g.fields s.peak = rw (all_blocks g blocks s.whole, ← one) (fit g.fields v.mem (v.reg HEAP) (v.reg FREE) s.heap.frontier blocks _ s.heap.sound s.within) in
    (s.peak, s.is_peak, told)
