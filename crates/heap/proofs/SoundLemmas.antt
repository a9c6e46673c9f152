-- A consistent heap is sound, its frontier is one number, and its counts are bounded.
-- Where no block but HEAP's is free, the roots lead to all others.
use mathlib.Core.Path.{◌≡◌, refl, sym, ap, ◌∙◌}
use mathlib.Core.Logic.{◌≢◌}
use mathlib.Core.List.{List, [], ◌∷◌}
use Prim.Native.Nat.{ℕ, suc, ◌+◌, ◌*◌, ◌≤◌, ◌<◌}
use native.Mathlib.Nat.{mul-le-mul_left}
use native.Mathlib.Omega.{arith}
use lib.ListN.{length}
use Rattle.heap.specs.Counting.{occ, refs}
use Rattle.heap.specs.Blocks.{Layout, children, Memory, Chain}
use Rattle.heap.specs.Reachability.{start, ReachableCount}
use Rattle.heap.specs.Claims.{Sound}
use Rattle.heap.proofs.Invariant.{Invariant, Held, Consistent, spare}
use Rattle.heap.proofs.CountingLemmas.{same_self, occ_length, refs_none, refs_length, subtract}
use Rattle.heap.proofs.BlockLemmas.{block_once, block_nonzero}
use Rattle.heap.proofs.ReachabilityLemmas.{reachable_through, reachable_is_held, held_is_reachable}
use Rattle.heap.proofs.ConsistencyLemmas.{reachable_held}

module _ {L : Layout} {M : Memory} {linked : ℕ → ℕ} {n : ℕ} {roots : List ℕ} (g : Consistent L M linked n roots) where
  -- the live blocks that are not lazily freed
  held_blocks : (held : List ℕ) × ((b : ℕ) → occ b g.live ≡ occ b g.lazy + occ b held) × ((b : ℕ) → refs (children M.fields) b g.live ≡ refs (children M.fields) b g.lazy + refs (children M.fields) b held)
  held_blocks = subtract (children M.fields) g.lazy g.live g.invariant.lazy_live

  pub sound : Sound L M n roots
  sound =
      let v = g.invariant in
      let q = held_blocks in
      record {
        linear = M.linear_head ∷ g.linear_rest;
        lazy = g.lazy;
        held = q.0;
        linear_chain = v.linear_chain;
        lazy_chain = v.lazy_chain;
        parts = λ b. omega (arith, v.parts b, q.1 b);
        counts = λ b m. omega (arith, v.held_count b (block_nonzero L n b (omega (arith, v.parts b, q.1 b))) (omega (arith, q.1 b)), q.2 b);
        held_reachable = λ b m. held_is_reachable v b (omega (arith, q.1 b));
        reachable_held = λ b r. let h = reachable_is_held v (λ x. omega (arith, q.2 x)) r in omega (arith, q.1 b);
        untouched = v.untouched;
      }

  pub sound_refs : (b : ℕ) → refs (children M.fields) b g.live ≡ refs (children M.fields) b sound.lazy + refs (children M.fields) b sound.held
  unfolding sound
  sound_refs b = held_blocks.2 b

  pub sound_lazy : sound.lazy ≡ g.lazy
  unfolding sound
  sound_lazy = refl

-- no count overflows: it is less than roots and fields are many
pub count_bounded : {L : Layout} {children : ℕ → List ℕ} {header : ℕ → ℕ} {linear_head lazy_head frontier : ℕ} {linear_rest lazy live roots linear : List ℕ} {b : ℕ} (most : ℕ) → ((x : ℕ) → occ x live ≢ 0 → length (children x) ≤ most)
    → Invariant L children header linear_head lazy_head frontier linear_rest lazy live roots → Held children header linear lazy live roots b → header b < length roots + most * frontier
count_bounded {children} {frontier} {live} {roots} {b} most h v y =
    omega (arith, occ_length b roots, refs_length children most b live h, mul-le-mul_left {m = length live} {n = frontier} most (omega (arith, v.size)))

-- ---- the frontier is the end of FREE's chain, and the chain has one end

ends_at_zero : (header : ℕ → ℕ) (first end : ℕ) (bs : List ℕ) → first ≡ 0 → end ≢ 0 → ((b : ℕ) → occ b bs ≢ 0 → b ≢ 0) → Chain header first bs end → ⊥
ends_at_zero header first end [] z ne nz c = ne (sym c ∙ z)
ends_at_zero header first end (b ∷ bs) z ne nz c = nz b (omega (arith, same_self b)) (sym c.0 ∙ z)

one_end : (header : ℕ → ℕ) (first e e' : ℕ) (bs cs : List ℕ) → header e ≡ 0 → header e' ≡ 0 → e ≢ 0 → e' ≢ 0 → ((b : ℕ) → occ b bs ≢ 0 → b ≢ 0) → ((b : ℕ) → occ b cs ≢ 0 → b ≢ 0)
    → Chain header first bs e → Chain header first cs e' → e ≡ e'
one_end header first e e' [] [] z z' ne ne' nb nc c c' = sym c ∙ c'
one_end header first e e' [] (x ∷ cs) z z' ne ne' nb nc c c' = absurd (ends_at_zero header (header x) e' cs (ap header (sym c'.0 ∙ c) ∙ z) ne' (λ b m. nc b (omega arith)) c'.1)
one_end header first e e' (x ∷ bs) [] z z' ne ne' nb nc c c' = absurd (ends_at_zero header (header x) e bs (ap header (sym c.0 ∙ c') ∙ z') ne (λ b m. nb b (omega arith)) c.1)
one_end header first e e' (x ∷ bs) (y ∷ cs) z z' ne ne' nb nc c c' =
    one_end header (header x) e e' bs cs z z' ne ne' (λ b m. nb b (omega arith)) (λ b m. nc b (omega arith)) c.1 (rw (sym c.0 ∙ c'.0) c'.1)

pub frontier_unique : {L : Layout} {M : Memory} {n m : ℕ} {roots roots' : List ℕ} → Sound L M n roots → Sound L M m roots' → n ≡ m
frontier_unique {L} {M} {n} {m} s t =
    L.distinct n m (one_end M.header M.lazy_head (L.address n) (L.address m) s.lazy t.lazy (s.untouched n (omega arith)) (t.untouched m (omega arith)) (L.nonzero n) (L.nonzero m)
    (λ b k. block_nonzero L n b (omega (arith, s.parts b))) (λ b k. block_nonzero L m b (omega (arith, t.parts b))) s.lazy_chain t.lazy_chain)

-- ---- the full heap

pub full_heap : {L : Layout} {M : Memory} {linked : ℕ → ℕ} {n : ℕ} {roots : List ℕ} (g : Consistent L M linked n roots) → spare g ≡ 0 → (c : ℕ) × ReachableCount M.fields roots c × (suc c ≡ n)
full_heap {L} {M} {n} g z = (
  length g.live,
  record {
    list = g.live;
    size = refl;
    once = λ b. omega (arith, g.invariant.parts b, block_once L n b);
    listed = λ b m. reachable_through (λ x nz k. start nz (omega (arith, refs_none (children M.fields) x g.lazy (omega arith)))) (held_is_reachable g.invariant b (omega (arith, occ_length b g.lazy)));
    complete = λ b r. let h = reachable_held g r in omega arith;
  },
  omega (arith, g.invariant.size),
)
