-- Copy and both loads keep the heap consistent.
-- An object that stays is counted one less and its values are shared; one that goes is released block by block.
use mathlib.Core.Path.{◌≡◌, refl, ◌∙◌}
use mathlib.Core.Logic.{◌≢◌}
use mathlib.Core.List.{List, [], ◌∷◌, ◌++◌, append_assoc}
use Prim.Native.Nat.{ℕ, ◌+◌, ◌≤◌, min}
use native.Mathlib.Decide.{ℕ_discrete}
use native.Mathlib.Omega.{arith}
use lib.ListN.{replicate}
use Rattle.heap.specs.Counting.{occ, refs}
use Rattle.heap.specs.Blocks.{Layout, Cell, pointers, children, Memory}
use Rattle.heap.specs.Reachability.{start, ReachableFrom}
use Rattle.heap.specs.Values.{Values, concat}
use Rattle.heap.specs.Apart.{ObjectApart, HoldAllApart}
use Rattle.heap.specs.Operations.{Elsewhere, with_headers, push_linear, last_field, ReleaseObject, Share, ShareLoad}
use Rattle.heap.proofs.Invariant.{Held, Consistent, Preserved, Outcome}
use Rattle.heap.proofs.CountingLemmas.{same_self, split, occ_append, occ_pointers, occ_replicate_other, Removed, remove, removed_occ, removed_refs}
use Rattle.heap.proofs.BlockLemmas.{block_once}
use Rattle.heap.proofs.OperationLemmas.{named_held, same_roots, release_block_lem}
use Rattle.heap.proofs.ReachabilityLemmas.{reachable_through}
use Rattle.heap.proofs.ValueLemmas.{object_nonzero, last_field_append, values_unlinked}
use Rattle.heap.proofs.ConsistencyLemmas.{preserved_then, preserved_weaken, preserved_object, object_reachable, reachable_held, consistent_same_roots, consistent_recount}

-- n copies of a root that no link names
pub copy_consistent : {L : Layout} {M : Memory} {linked : ℕ → ℕ} {frontier : ℕ} {roots : List ℕ} (n p : ℕ) (header' : ℕ → ℕ) → Share (replicate n p) M.header header'
    → occ p roots ≢ 0 → (p ≢ 0 → linked p ≡ 0) → Consistent L M linked frontier roots → Consistent L (with_headers M header') linked frontier (replicate n p ++ roots)
copy_consistent {roots} n p header' e m z g =
    consistent_recount (replicate n p ++ roots) header'
    (λ b nz. omega (arith, e b nz, occ_append b (replicate n p) roots))
    (split p (λ nz _. start nz m) (λ b d nz x. start nz (omega (arith, occ_append b (replicate n p) roots, occ_replicate_other n p b d))))
    (split p (λ nz x. absurd (x (z nz))) (λ b d nz x. omega (arith, occ_append b (replicate n p) roots, occ_replicate_other n p b d))) g

pub shared_load_consistent : {L : Layout} {M : Memory} {linked : ℕ → ℕ} {frontier p : ℕ} {roots : List ℕ} (sizes : ℕ → List ℕ) (vs : Values) (chunks : List (List Cell)) (header' : ℕ → ℕ) → ShareLoad p chunks M.header header'
    → ObjectApart M.fields linked p chunks → HoldAllApart sizes M.fields linked vs (concat chunks) → Consistent L M linked frontier (p ∷ roots) → Consistent L (with_headers M header') linked frontier (pointers (concat chunks) ++ roots)
shared_load_consistent {M} {linked} {p} {roots} sizes vs chunks header' e o a g =
    consistent_recount (pointers (concat chunks) ++ roots) header'
    (λ b nz. omega (arith, e b nz, occ_append b (pointers (concat chunks)) roots))
    (λ b nz m. by b nz m (ℕ_discrete (occ b roots) 0))
    (λ b nz m. omega (arith, occ_append b (pointers (concat chunks)) roots, values_unlinked sizes M.fields linked vs (concat chunks) b nz m a)) g
  where
    by : (b : ℕ) → b ≢ 0 → occ b (pointers (concat chunks) ++ roots) ≢ 0 → Dec (occ b roots ≡ 0) → ReachableFrom M.fields (p ∷ roots) b
    by b nz m (no z) = start nz (omega arith)
    by b nz m (yes z) = object_reachable M.fields linked (p ∷ roots) chunks p (λ nz. start nz (omega (arith, same_self p))) o b nz (omega (arith, occ_append b (pointers (concat chunks)) roots))

-- one block released, that nothing but this root names
module _ {L : Layout} {M : Memory} {linked : ℕ → ℕ} {frontier p : ℕ} {roots : List ℕ} (nz : p ≢ 0) (header' : ℕ → ℕ) (at : header' p ≡ M.linear_head) (off : Elsewhere p M.header header')
    (g : Consistent L M linked frontier (p ∷ roots)) (only : occ p (p ∷ roots) + refs (children M.fields) p g.live ≤ 1) where
  root_held : Held (children M.fields) M.header (M.linear_head ∷ g.linear_rest) g.lazy g.live (p ∷ roots) p
  root_held = named_held p nz (omega (arith, same_self p)) g.invariant

  others : (ys : List ℕ) × Removed p g.live ys
  others = remove p g.live (omega (arith, root_held.is_live))

  release_linked : ℕ → ℕ
  release_linked b = min (linked b) (occ b others.0)

  -- the roots are those that its fields name, and the others
  release_consistent : (roots' : List ℕ) → ((b : ℕ) → b ≢ 0 → occ b roots' ≡ occ b (children M.fields p) + occ b roots) → Consistent L (push_linear M p header') release_linked frontier roots'
  unfolding release_linked
  release_consistent roots' e = record {
    linear_rest = M.linear_head ∷ g.linear_rest;
    lazy = g.lazy;
    live = others.0;
    invariant = same_roots (λ b nb. omega (arith, e b nb, occ_append b (children M.fields p) roots)) (release_block_lem nz off g.invariant (omega (arith, root_held.count)) at others.1);
    one_pointer = λ b nb m. omega (arith, e b nb, g.one_pointer b nb (omega arith), removed_refs (children M.fields) b others.1);
    linked_live = λ b. omega arith;
  }

  release_preserved : (A B : List ℕ) → ((b : ℕ) → b ≢ 0 → occ b A ≡ occ b (children M.fields p) + occ b roots) → ((x : ℕ) → x ≢ 0 → occ x B ≢ 0 → ReachableFrom M.fields A x)
      → Preserved M linked B (push_linear M p header') release_linked B
  unfolding release_linked release_consistent
  release_preserved A B e s = record {
    reachable = λ b r. r;
    fields = λ b r. refl;
    marks = λ b r. omega (arith, g.linked_live b, (reachable_held (release_consistent A e) (reachable_through s r)).is_live, removed_occ b others.1, g.invariant.parts b, block_once L frontier b);
  }

-- one operation after another, with the roots in another sequence
then : {L : Layout} {M M₁ M' : Memory} {linked linked₁ : ℕ → ℕ} {n : ℕ} {A B : List ℕ} → ((b : ℕ) → b ≢ 0 → occ b A ≡ occ b B) → Preserved M linked A M₁ linked₁ A → Outcome L M₁ linked₁ B M' n B → Outcome L M linked A M' n A
then {A} e k t = record {
  linked' = t.linked';
  consistent = consistent_same_roots A e t.consistent;
  preserved = preserved_then k (preserved_weaken (λ b nz m. omega (arith, e b nz)) (λ b nz m. omega (arith, e b nz)) t.preserved);
}

-- what the values of an object's other blocks name is led to from its link
rest_reachable : (fields : ℕ → List Cell) (linked : ℕ → ℕ) (q : ℕ) (c d : List Cell) (chunks : List (List Cell)) (roots : List ℕ) → ObjectApart fields linked q (d ∷ chunks)
    → (x : ℕ) → x ≢ 0 → occ x (pointers (c ++ (d ++ concat chunks)) ++ roots) ≢ 0 → ReachableFrom fields (q ∷ (pointers c ++ roots)) x
rest_reachable fields linked q c d chunks roots o x nx m = by (ℕ_discrete (occ x (pointers c ++ roots)) 0)
  where
    by : Dec (occ x (pointers c ++ roots) ≡ 0) → ReachableFrom fields (q ∷ (pointers c ++ roots)) x
    by (no z) = start nx (omega arith)
    by (yes z) = object_reachable fields linked (q ∷ (pointers c ++ roots)) (d ∷ chunks) q (λ nz. start nz (omega (arith, same_self q))) o x nx
        (omega (arith, occ_append x (pointers (c ++ (d ++ concat chunks))) roots, occ_pointers x c (d ++ concat chunks), occ_append x (pointers c) roots))

-- only the first block's count need be tested: of the others, linked tells that the link is their one pointer
pub release_object : {L : Layout} {M M' : Memory} {linked : ℕ → ℕ} {frontier p : ℕ} (roots : List ℕ) (c : List Cell) (chunks : List (List Cell)) (g : Consistent L M linked frontier (p ∷ roots))
    → occ p (p ∷ roots) + refs (children M.fields) p g.live ≤ 1 → ObjectApart M.fields linked p (c ∷ chunks) → ReleaseObject M p (c ∷ chunks) M'
    → Outcome L M linked (pointers (concat (c ∷ chunks)) ++ roots) M' frontier (pointers (concat (c ∷ chunks)) ++ roots)
release_object {M} {p} roots c [] g only o s =
    let A = pointers (c ++ []) ++ roots in
    let e : (b : ℕ) → b ≢ 0 → occ b A ≡ occ b (children M.fields p) + occ b roots =
    λ b nb. rw o.3 (omega (arith, occ_append b (pointers (c ++ [])) roots, occ_pointers b c [], occ_pointers b o.1 c, o.2 b nb)) in
    rw (← s.3) (record {
      linked' = release_linked o.0 s.0 s.1 s.2 g only;
      consistent = release_consistent o.0 s.0 s.1 s.2 g only A e;
      preserved = release_preserved o.0 s.0 s.1 s.2 g only A A e (λ x nx m. start nx m);
    })
release_object {M} {linked} {p} roots c (d ∷ chunks) g only o s =
    let unused = o.1 in
    let link = o.3 in
    let q = link.fst in
    let A = pointers (c ++ (d ++ concat chunks)) ++ roots in
    let A₁ = q ∷ (pointers c ++ roots) in
    let e₁ : (b : ℕ) → b ≢ 0 → occ b A₁ ≡ occ b (children M.fields p) + occ b roots =
    λ b nb. rw o.4 (omega (arith, occ_append b (pointers c) roots, occ_pointers b c (link ∷ []), occ_pointers b unused (c ++ (link ∷ [])), o.2 b nb)) in
    let to : (last_field (M.fields p)).fst ≡ q = rw (o.4, ← append_assoc, last_field_append) refl in
    let g₁ = release_consistent o.0 s.0 s.1 s.2 g only A₁ e₁ in
    let k₁ = release_preserved o.0 s.0 s.1 s.2 g only A₁ A₁ e₁ (λ x nx m. start nx m) in
    let nq : q ≢ 0 = object_nonzero M.fields linked q d chunks o.6 in
    let m₁ : occ q A₁ ≢ 0 = omega (arith, same_self q) in
    let lk : release_linked o.0 s.0 s.1 s.2 g only q ≡ 1 = k₁.marks q (start nq m₁) ∙ o.5 in
    let k = release_preserved o.0 s.0 s.1 s.2 g only A₁ A e₁ (rest_reachable M.fields linked q c d chunks roots o.6) in
    then (λ b nb. omega (arith, occ_append b (pointers (c ++ (d ++ concat chunks))) roots, occ_pointers b c (d ++ concat chunks), occ_append b (pointers (d ++ concat chunks)) (pointers c ++ roots), occ_append b (pointers c) roots)) k
    (release_object {M = push_linear M p s.0} (pointers c ++ roots) d chunks g₁ (g₁.one_pointer q nq (omega arith)) (preserved_object k₁ (d ∷ chunks) q (λ _. m₁) o.6) (rw to at s.3))
