-- The number of blocks that the roots lead to exists in every consistent heap, and a store adds just its own blocks to it.
-- So the frontier after a store is below what the blocks reachable before it and those it acquires make room for.
use mathlib.Core.Path.{◌≡◌, refl, ap}
use mathlib.Core.Logic.{◌≢◌}
use mathlib.Core.List.{List, [], ◌∷◌, ◌++◌}
use Prim.Native.Nat.{ℕ, suc, ◌+◌, ◌≤◌, ◌<◌}
use native.Mathlib.Decide.{ℕ_discrete, dec_lt}
use native.Mathlib.Omega.{arith}
use lib.ListN.{length}
use Rattle.heap.specs.Counting.{occ, refs}
use Rattle.heap.specs.Blocks.{Layout, Cell, pointers, children, Memory}
use Rattle.heap.specs.Reachability.{start, follow, ReachableFrom, ReachableCount}
use Rattle.heap.specs.Values.{concat}
use Rattle.heap.specs.Operations.{StoreBlock, StoreObject}
use Rattle.heap.proofs.Invariant.{NewestFirst, Consistent, spare, Stored}
use Rattle.heap.proofs.CountingLemmas.{same_self, same_other, split, occ_append, occ_pointers, refs_member, refs_find, length_le}
use Rattle.heap.proofs.BlockLemmas.{block_once, block_nonzero, unnamed_outside}
use Rattle.heap.proofs.ConsistencyLemmas.{reachable_held}
use Rattle.heap.proofs.OperationLemmas.{head_free}
use Rattle.heap.proofs.StoreLemmas.{not_head, still_reachable, store_object_lem}
use Rattle.heap.proofs.SoundLemmas.{full_heap}

module _ {L : Layout} {M : Memory} {linked : ℕ → ℕ} {n : ℕ} {roots : List ℕ} (g : Consistent L M linked n roots) where
  abbrev Led : ℕ → Type 0
  Led b = ReachableFrom M.fields roots b

  abbrev named : List ℕ → ℕ → ℕ
  named found b = occ b roots + refs (children M.fields) b found

  named_led : (x : ℕ) (found : List ℕ) → x ≢ 0 → ((b : ℕ) → occ b found ≢ 0 → Led b) → named found x ≢ 0 → Dec (occ x roots ≡ 0) → Led x
  named_led x found nz into m (no z) = start nz z
  named_led x found nz into m (yes z) = let q = refs_find (children M.fields) x found (omega arith) in follow q.0 (into q.0 q.1) nz q.2

  -- a block that neither the roots nor the blocks found in front of it name is not led to
  unnamed_not_led : (x : ℕ) (front back found : List ℕ) → ((b : ℕ) → occ b g.live ≡ occ b front + occ b (x ∷ back)) → NewestFirst (children M.fields) (x ∷ back)
      → ((b : ℕ) → occ b front ≢ 0 → Led b → occ b found ≢ 0) → named found x ≡ 0 → Led x → ⊥
  unnamed_not_led x front back found p o all z (start nz m) = m (omega arith)
  unnamed_not_led x front back found p o all z (follow y r nz m) = by (ℕ_discrete (occ y front) 0)
    where
      by : Dec (occ y front ≡ 0) → ⊥
      by (yes d) =
          let c : occ x back ≡ 0 = omega (arith, p x, same_self x, g.invariant.parts x, block_once L n x) in
          omega (arith, o.0 x nz c, unnamed_outside (children M.fields) back x o.1 nz c, refs_member (children M.fields) y x (x ∷ back) (omega (arith, p y, (reachable_held g r).is_live)))
      by (no d) = omega (arith, refs_member (children M.fields) y x found (all y d r))

  -- along the live blocks, newest first: found are those of front that are led to
  count_led : (front back found : List ℕ) → ((b : ℕ) → occ b g.live ≡ occ b front + occ b back) → NewestFirst (children M.fields) back → ((b : ℕ) → occ b found ≤ occ b front)
      → ((b : ℕ) → occ b found ≢ 0 → Led b) → ((b : ℕ) → occ b front ≢ 0 → Led b → occ b found ≢ 0) → (count : ℕ) × ReachableCount M.fields roots count
  count_led front [] found p o few led all = (
    length found,
    record {
      list = found;
      size = refl;
      once = λ b. omega (arith, few b, p b, g.invariant.parts b, block_once L n b);
      listed = led;
      complete = λ b r. all b (omega (arith, p b, (reachable_held g r).is_live)) r;
    },
  )
  count_led front (x ∷ back) found p o few led all = by (ℕ_discrete (named found x) 0) (λ found₁. count_led (x ∷ front) back found₁ (λ b. omega (arith, p b)) o.1)
    where
      by : Dec (named found x ≡ 0)
          → ((found₁ : List ℕ) → ((b : ℕ) → occ b found₁ ≤ occ b (x ∷ front)) → ((b : ℕ) → occ b found₁ ≢ 0 → Led b) → ((b : ℕ) → occ b (x ∷ front) ≢ 0 → Led b → occ b found₁ ≢ 0) → (count : ℕ) × ReachableCount M.fields roots count)
          → (count : ℕ) × ReachableCount M.fields roots count
      by (yes z) k = k found (λ b. omega (arith, few b)) led (split x (λ _ r. absurd (unnamed_not_led x front back found p o all z r)) (λ b d m r. all b (omega (arith, same_other d)) r))
      by (no z) k =
          let nz = block_nonzero L n x (omega (arith, g.invariant.parts x, p x, same_self x)) in
          k (x ∷ found) (λ b. omega (arith, few b)) (split x (λ _. named_led x found nz led z (ℕ_discrete (occ x roots) 0)) (λ b d m. led b (omega (arith, same_other d))))
          (split x (λ _ _. omega (arith, same_self x)) (λ b d m r. let e = all b (omega (arith, same_other d)) r in omega arith))

  pub reachable_counted : (count : ℕ) × ReachableCount M.fields roots count
  reachable_counted = count_led [] g.live [] (λ b. omega arith) g.invariant.newest_first (λ b. omega arith) (λ b m. absurd (m refl)) (λ b m r. absurd (m refl))

module _ {L : Layout} {M M' : Memory} {linked : ℕ → ℕ} {n : ℕ} {body : List Cell} (before roots : List ℕ) (taken : (b : ℕ) → b ≢ 0 → occ b (pointers body) + occ b roots ≡ occ b before) (p : StoreBlock L M body M')
    (g : Consistent L M linked n before) where
  -- what is led to after a block is stored was led to before, but for the block itself
  led_before : {b : ℕ} → ReachableFrom M'.fields (M.linear_head ∷ roots) b → b ≢ M.linear_head → ReachableFrom M.fields before b
  led_before {b} (start nz m) d = start nz (omega (arith, taken b nz, same_other d))
  led_before {b} (follow y r nz m) d = by (ℕ_discrete y M.linear_head) (λ n. led_before r n)
    where
      by : Dec (y ≡ M.linear_head) → (y ≢ M.linear_head → ReachableFrom M.fields before y) → ReachableFrom M.fields before b
      by (yes q) k = start nz (omega (arith, taken b nz, ap (λ (x : ℕ). occ b (children M'.fields x)) q, ap (λ (x : List Cell). occ b (pointers x)) p.written))
      by (no n) k = follow y (k n) nz (rw (p.elsewhere y n) at m)

  -- the block is counted once more
  block_count : {c c' : ℕ} → ReachableCount M.fields before c → ReachableCount M'.fields (M.linear_head ∷ roots) c' → c' ≡ suc c
  block_count r r' =
      omega (
        arith,
        r.size,
        r'.size,
        length_le r'.list (M.linear_head ∷ r.list) (split M.linear_head (omega (arith, r'.once M.linear_head, same_self M.linear_head)) (λ b d. no_more b d (ℕ_discrete (occ b r'.list) 0))),
        length_le (M.linear_head ∷ r.list) r'.list (split M.linear_head (head (ℕ_discrete (occ M.linear_head r.list) 0)) (λ b d. no_less b d (ℕ_discrete (occ b r.list) 0))),
      )
    where
      no_more : (b : ℕ) → b ≢ M.linear_head → Dec (occ b r'.list ≡ 0) → occ b r'.list ≤ occ b (M.linear_head ∷ r.list)
      no_more b d (yes z) = omega arith
      no_more b d (no z) = omega (arith, r'.once b, r.complete b (led_before (r'.listed b z) d))

      head : Dec (occ M.linear_head r.list ≡ 0) → occ M.linear_head (M.linear_head ∷ r.list) ≤ occ M.linear_head r'.list
      head (yes z) = let s = same_self M.linear_head in omega (arith, r'.complete M.linear_head (start (head_free g.invariant).4 (omega arith)))
      head (no z) = absurd (not_head roots [] (λ b. omega arith) taken p g (r.listed M.linear_head z) refl)

      no_less : (b : ℕ) → b ≢ M.linear_head → Dec (occ b r.list ≡ 0) → occ b (M.linear_head ∷ r.list) ≤ occ b r'.list
      no_less b d (yes z) = omega (arith, same_other d)
      no_less b d (no z) = omega (arith, same_other d, r.once b, r'.complete b (still_reachable roots [] (λ b. omega arith) taken p g (r.listed b z)))

pub store_count : {L : Layout} {M : Memory} {linked : ℕ → ℕ} {n k k' : ℕ} {before : List ℕ} (M' : Memory) (p : ℕ) (roots : List ℕ) (c : List Cell) (chunks : List (List Cell)) → StoreObject L M c chunks M' p
    → ((b : ℕ) → occ b before ≡ occ b (pointers (concat (c ∷ chunks))) + occ b roots) → Consistent L M linked n before
    → ReachableCount M.fields before k → ReachableCount M'.fields (p ∷ roots) k' → k' ≡ k + length (c ∷ chunks)
store_count {M} {k'} {before} M' p roots c [] s e g r r' =
    let r₂ : ReachableCount M'.fields (M.linear_head ∷ roots) k' = rw s.0 r' in
    omega (arith, block_count before roots (λ b nz. omega (arith, e b, occ_pointers b c [], occ_pointers b s.1 c, s.2 b nz)) s.3 g r r₂)
store_count {L} {M} {linked} {n} {k} {k'} {before} M' p roots c (d ∷ chunks) s e g r r' =
    let q = s.4.fst in
    let e₁ : (b : ℕ) → occ b before ≡ occ b (pointers (concat (d ∷ chunks))) + occ b (pointers c ++ roots) = λ b. omega (arith, e b, occ_pointers b c (concat (d ∷ chunks)), occ_append b (pointers c) roots) in
    let g₁ = (store_object_lem (pointers c ++ roots) 1 (omega arith) d chunks s.5 e₁ g).outcome.consistent in
    let r₁ = reachable_counted g₁ in
    let r₂ : ReachableCount M'.fields (s.0.linear_head ∷ roots) k' = rw s.1 r' in
    omega (
      arith,
      store_count {k' = r₁.0} s.0 q (pointers c ++ roots) d chunks s.5 e₁ g r r₁.1,
      block_count (q ∷ (pointers c ++ roots)) roots (λ b nz. omega (arith, occ_pointers b s.2 (c ++ (s.4 ∷ [])), occ_pointers b c (s.4 ∷ []), s.3 b nz, occ_append b (pointers c) roots)) s.6 g₁ r₁.1 r₂,
    )

-- room: the frontier after the store stays below a bound that it and the store's count stay below before
pub store_room : {L : Layout} {M M' : Memory} {linked : ℕ → ℕ} {n p mark k : ℕ} {before : List ℕ} (roots : List ℕ) (c : List Cell) (chunks : List (List Cell)) → StoreObject L M c chunks M' p
    → ((b : ℕ) → occ b before ≡ occ b (pointers (concat (c ∷ chunks))) + occ b roots) → (g : Consistent L M linked n before) (z : Stored L M linked n (spare g) before M' p mark roots (c ∷ chunks))
    → ReachableCount M.fields before k → (bound : ℕ) → n < bound → suc (k + length (c ∷ chunks)) < bound → z.frontier' < bound
store_room {M'} {n} {p} roots c chunks s e g z r bound l h = by (dec_lt n z.frontier')
  where
    by : Dec (n < z.frontier') → z.frontier' < bound
    by (yes m) = let t = full_heap z.outcome.consistent (z.moved.only_when_full m) in omega (arith, store_count M' p roots c chunks s e g r t.1)
    by (no m) = omega arith
