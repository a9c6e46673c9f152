-- Held blocks are just those that pointers lead to from the roots and the lazily freed blocks.
-- The number of blocks that roots lead to is one only.
use mathlib.Core.Path.{◌≡◌, refl}
use mathlib.Core.Logic.{◌≢◌, ◌⊎◌, inl, inr}
use mathlib.Core.List.{List, [], ◌∷◌}
use Prim.Native.Nat.{ℕ, ◌+◌, ◌≤◌, ◌<◌}
use native.Mathlib.Decide.{ℕ_discrete}
use native.Mathlib.Omega.{arith}
use Rattle.heap.specs.Counting.{occ, refs}
use Rattle.heap.specs.Blocks.{Layout, Cell}
use Rattle.heap.specs.Reachability.{Reachable, start, follow, ReachableCount}
use Rattle.heap.proofs.Invariant.{NewestFirst, Invariant, Held}
use Rattle.heap.proofs.CountingLemmas.{same_self, same_other, split, refs_member, refs_find, length_le}
use Rattle.heap.proofs.BlockLemmas.{block_once, block_nonzero, unnamed_outside}
use Rattle.heap.proofs.OperationLemmas.{named_held}

-- from other pointers to begin with, if these lead to those
pub reachable_through : {children : ℕ → List ℕ} {starts starts' : ℕ → ℕ} → ((x : ℕ) → x ≢ 0 → starts x ≢ 0 → Reachable children starts' x) → {b : ℕ} → Reachable children starts b → Reachable children starts' b
reachable_through s (start nz m) = s _ nz m
reachable_through s (follow y r nz m) = follow y (reachable_through s r) nz m

module _ {L : Layout} {children : ℕ → List ℕ} {header : ℕ → ℕ} {linear_head lazy_head frontier : ℕ} {linear_rest lazy live roots : List ℕ}
    (v : Invariant L children header linear_head lazy_head frontier linear_rest lazy live roots) where
  -- what is led to is held, if roots and live blocks have the pointers to begin with
  pub reachable_is_held : {starts : ℕ → ℕ} → ((b : ℕ) → starts b ≤ occ b roots + refs children b live) → {b : ℕ} → Reachable children starts b → Held children header (linear_head ∷ linear_rest) lazy live roots b
  reachable_is_held f {b} (start nz m) = named_held b nz (omega (arith, f b)) v
  reachable_is_held f {b} (follow y r nz m) = let h = reachable_is_held f r in named_held b nz (omega (arith, refs_member children y b live (omega arith))) v

  abbrev Led : ℕ → Type 0
  Led b = Reachable children (λ x. occ x roots + refs children x lazy) b

  -- a block that a root names, or a live block that is lazily freed or led to itself
  led_by : (b : ℕ) (front : List ℕ) → b ≢ 0 → occ b roots + refs children b front ≢ 0 → ((y : ℕ) → occ y front ≢ 0 → (occ y lazy ≢ 0) ⊎ Led y) → Dec (occ b roots ≡ 0) → Led b
  led_by b front nz r f (no z) = start nz (omega arith)
  led_by b front nz r f (yes z) = let q = refs_find children b front (omega arith) in by q.0 q.2 (f q.0 q.1)
    where
      by : (y : ℕ) → occ b (children y) ≢ 0 → (occ y lazy ≢ 0) ⊎ Led y → Led b
      by y g (inl l) = start nz (omega (arith, refs_member children y b lazy l))
      by y g (inr l) = follow y l nz g

  led_next : (x : ℕ) (front back : List ℕ) → ((b : ℕ) → occ b live ≡ occ b front + occ b (x ∷ back)) → ((b : ℕ) → refs children b live ≡ refs children b front + refs children b (x ∷ back)) → NewestFirst children (x ∷ back)
      → ((y : ℕ) → occ y front ≢ 0 → (occ y lazy ≢ 0) ⊎ Led y) → Dec (occ x lazy ≡ 0) → (occ x lazy ≢ 0) ⊎ Led x
  led_next x front back p q o f (no z) = inl z
  led_next x front back p q o f (yes z) =
      let s = same_self x in
      let m = p x in
      let c = v.parts x in
      let one = block_once L frontier x in
      let nz = block_nonzero L frontier x (omega arith) in
      inr (led_by x front nz (omega (arith, q x, v.held_count x nz (omega arith), o.0 x nz (omega arith), unnamed_outside children back x o.1 nz (omega arith))) f (ℕ_discrete (occ x roots) 0))

  -- along the live blocks, newest first
  led_all : (front back : List ℕ) → ((b : ℕ) → occ b live ≡ occ b front + occ b back) → ((b : ℕ) → refs children b live ≡ refs children b front + refs children b back) → NewestFirst children back
      → ((y : ℕ) → occ y front ≢ 0 → (occ y lazy ≢ 0) ⊎ Led y) → (y : ℕ) → occ y live ≢ 0 → (occ y lazy ≢ 0) ⊎ Led y
  led_all front [] p q o f = λ y m. f y (omega (arith, p y))
  led_all front (x ∷ back) p q o f =
      led_all (x ∷ front) back (λ b. omega (arith, p b)) (λ b. omega (arith, q b)) o.1
      (split x (λ _. led_next x front back p q o f (ℕ_discrete (occ x lazy) 0)) (λ y g m. f y (omega (arith, same_other g))))

  pub held_is_reachable : (b : ℕ) → occ b lazy < occ b live → Reachable children (λ x. occ x roots + refs children x lazy) b
  held_is_reachable b l = by (led_all [] live (λ y. omega arith) (λ y. omega arith) v.newest_first (λ y m. absurd (m refl)) b (omega arith))
    where
      by : (occ b lazy ≢ 0) ⊎ Led b → Led b
      by (inl z) = absurd (z (omega (arith, v.parts b, block_once L frontier b)))
      by (inr r) = r

reachable_count_le : {fields : ℕ → List Cell} {roots : List ℕ} {c d : ℕ} → ReachableCount fields roots c → ReachableCount fields roots d → c ≤ d
reachable_count_le p q = omega (arith, p.size, q.size, length_le p.list q.list (λ b. by b (ℕ_discrete (occ b p.list) 0)))
  where
    by : (b : ℕ) → Dec (occ b p.list ≡ 0) → occ b p.list ≤ occ b q.list
    by b (yes z) = omega arith
    by b (no z) = omega (arith, p.once b, q.complete b (p.listed b z))

pub reachable_count_unique : {fields : ℕ → List Cell} {roots : List ℕ} {c d : ℕ} → ReachableCount fields roots c → ReachableCount fields roots d → c ≡ d
reachable_count_unique p q = omega (arith, reachable_count_le p q, reachable_count_le q p)

-- the same blocks from roots in another sequence
pub reachable_count_same : {fields : ℕ → List Cell} {roots roots' : List ℕ} {c : ℕ} → ((b : ℕ) → occ b roots' ≡ occ b roots) → ReachableCount fields roots c → ReachableCount fields roots' c
reachable_count_same e p = record {
  list = p.list;
  size = p.size;
  once = p.once;
  listed = λ b m. reachable_through (λ x nz k. start nz (omega (arith, e x))) (p.listed b m);
  complete = λ b r. p.complete b (reachable_through (λ x nz k. start nz (omega (arith, e x))) r);
}
