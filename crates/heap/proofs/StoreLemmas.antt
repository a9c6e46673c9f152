-- The store of an object of any number of blocks keeps the heap consistent, and preserves all that the roots lead to.
-- One block is written and acquired at a time, the object's last block first.
use mathlib.Core.Path.{◌≡◌, ap, ◌∙◌}
use mathlib.Core.Logic.{◌≢◌}
use mathlib.Core.List.{List, [], ◌∷◌, ◌++◌}
use Prim.Native.Nat.{ℕ, zero, suc, ◌+◌, ◌≤◌, min}
use native.Mathlib.Decide.{ℕ_discrete}
use native.Mathlib.Omega.{arith}
use lib.ListN.{replicate}
use Rattle.heap.specs.Counting.{same, occ, refs}
use Rattle.heap.specs.Blocks.{Layout, Cell, pointers, children, Memory}
use Rattle.heap.specs.Reachability.{start, follow, ReachableFrom}
use Rattle.heap.specs.Values.{concat, NoPointers}
use Rattle.heap.specs.Operations.{StoreBlock, StoreObject}
use Rattle.heap.proofs.Invariant.{Invariant, FrontierMoved, Acquired, Consistent, spare, Outcome, Stored}
use Rattle.heap.proofs.CountingLemmas.{same_self, same_other, split, differ_by_occ, occ_append, occ_pointers, occ_replicate}
use Rattle.heap.proofs.BlockLemmas.{refs_frame}
use Rattle.heap.proofs.OperationLemmas.{named_held, head_free, same_roots, write_head, one_more, acquire_block_lem}
use Rattle.heap.proofs.ValueLemmas.{object_nonzero}
use Rattle.heap.proofs.ConsistencyLemmas.{moved_then, preserved_then, preserved_object, reachable_held}

-- One block: its pointers leave the roots, and the block is a root. marks has the block's address if a link is to name it, and nothing else.
module _ {L : Layout} {M M' : Memory} {linked : ℕ → ℕ} {n : ℕ} {before : List ℕ} {body : List Cell} (roots marks : List ℕ) (head-only : (b : ℕ) → occ b marks ≤ same b M.linear_head)
    (taken : (b : ℕ) → b ≢ 0 → occ b (pointers body) + occ b roots ≡ occ b before) (p : StoreBlock L M body M') (g : Consistent L M linked n before) where
  block_written : Invariant L (children M'.fields) M.header M.linear_head M.lazy_head n g.linear_rest g.lazy g.live (children M'.fields M.linear_head ++ roots)
  block_written = same_roots (λ b nz. rw p.written (omega (arith, occ_append b (pointers body) roots, taken b nz))) (write_head (children M'.fields) (λ b m. ap pointers (p.elsewhere b m)) g.invariant)

  block_acquired : Acquired L (children M'.fields) M'.header M'.linear_head M'.lazy_head (M.linear_head ∷ roots) n (spare g) (one_more (children M'.fields) M.linear_head g.live roots)
  block_acquired = acquire_block_lem roots p.acquired block_written

  block_linked : ℕ → ℕ
  block_linked b = occ b marks + min (linked b) (occ b block_acquired.live)

  head_before : (occ M.linear_head block_acquired.live ≡ 1) × (M.linear_head ≢ 0) × (linked M.linear_head ≡ 0) × (occ M.linear_head before + refs (children M.fields) M.linear_head g.live ≡ 0)
  head_before =
      let w = head_free g.invariant in
      ((named_held M.linear_head w.4 (omega (arith, same_self M.linear_head)) block_acquired.invariant).is_live, w.4, omega (arith, g.linked_live M.linear_head), g.invariant.others_unnamed M.linear_head w.4 (omega arith))

  pointers_after : (b : ℕ) → b ≢ 0 → same b M.linear_head + occ b roots + refs (children M'.fields) b block_acquired.live ≤ same b M.linear_head + (occ b before + refs (children M.fields) b g.live)
  pointers_after b nz =
      omega (
        arith,
        block_acquired.pointers_most b,
        occ_append b (children M'.fields M.linear_head) roots,
        ap (λ (x : List Cell). occ b (pointers x)) p.written,
        taken b nz,
        refs_frame (children M.fields) (children M'.fields) M.linear_head (λ x m. ap pointers (p.elsewhere x m)) b g.live (head_free g.invariant).1,
      )

  block_consistent : Consistent L M' block_linked block_acquired.frontier (M.linear_head ∷ roots)
  unfolding block_linked
  block_consistent =
      let s = same_self M.linear_head in
      record {
        linear_rest = block_acquired.linear_rest;
        lazy = block_acquired.lazy;
        live = block_acquired.live;
        invariant = block_acquired.invariant;
        one_pointer = split M.linear_head (λ nz m. omega (arith, pointers_after M.linear_head nz, head_before.3))
            (λ b d nz m. omega (arith, pointers_after b nz, same_other d, head-only b, g.one_pointer b nz (omega (arith, same_other d, head-only b))));
        linked_live = split M.linear_head (omega (arith, head-only M.linear_head, head_before.0, head_before.2)) (λ b d. omega (arith, head-only b, same_other d));
      }

  pub not_head : {b : ℕ} → ReachableFrom M.fields before b → b ≢ M.linear_head
  not_head {b} r = differ_by_occ b M.linear_head g.live (omega (arith, (reachable_held g r).is_live, (head_free g.invariant).1))

  pub still_reachable : {b : ℕ} → ReachableFrom M.fields before b → ReachableFrom M'.fields (M.linear_head ∷ roots) b
  still_reachable {b} (start nz m) = by (ℕ_discrete (occ b roots) 0)
    where
      by : Dec (occ b roots ≡ 0) → ReachableFrom M'.fields (M.linear_head ∷ roots) b
      by (yes z) = follow M.linear_head (start head_before.1 (omega (arith, same_self M.linear_head))) nz (rw p.written (omega (arith, taken b nz)))
      by (no z) = start nz (omega arith)
  still_reachable (follow y r nz m) = follow y (still_reachable r) nz (rw (p.elsewhere y (not_head r)) m)

  store_block : Outcome L M linked before M' block_acquired.frontier (M.linear_head ∷ roots)
  unfolding block_linked block_consistent
  store_block = record {
    linked' = block_linked;
    consistent = block_consistent;
    preserved = record {
      reachable = λ b r. still_reachable r;
      fields = λ b r. p.elsewhere b (not_head r);
      marks = λ b r. omega (arith, head-only b, same_other (not_head r), g.linked_live b, (reachable_held g r).is_live, (reachable_held block_consistent (still_reachable r)).is_live);
    };
  }

  block_moved : FrontierMoved n (spare g) block_acquired.frontier (spare store_block.consistent)
  unfolding store_block block_consistent
  block_moved = block_acquired.moved

  block_marked : store_block.linked' M.linear_head ≡ occ M.linear_head marks
  unfolding store_block block_linked
  block_marked = omega (arith, head_before.2)

mark_once : (mark a b : ℕ) → mark ≤ 1 → occ b (replicate mark a) ≤ same b a
mark_once zero a b l = omega arith
mark_once (suc zero) a b l = omega arith
mark_once (suc (suc mark)) a b l = absurd (omega arith)

-- the object's last block, stored first
store_last : {L : Layout} {M M' : Memory} {linked : ℕ → ℕ} {n p : ℕ} {before : List ℕ} (roots : List ℕ) (mark : ℕ) → mark ≤ 1 → (c unused : List Cell) → NoPointers unused → StoreBlock L M (unused ++ c) M' → M.linear_head ≡ p
    → ((b : ℕ) → occ b before ≡ occ b (pointers c) + occ b roots) → (g : Consistent L M linked n before) → Stored L M linked n (spare g) before M' p mark roots (c ∷ [])
store_last {M} {before} roots mark h c unused none p to q g =
    let a = M.linear_head in
    let e : (b : ℕ) → b ≢ 0 → occ b (pointers (unused ++ c)) + occ b roots ≡ occ b before = λ b nz. omega (arith, occ_pointers b unused c, none b nz, q b) in
    let m : (b : ℕ) → occ b (replicate mark a) ≤ same b a = λ b. mark_once mark a b h in
    rw (← to) (record {
      frontier' = (block_acquired roots (replicate mark a) m e p g).frontier;
      outcome = store_block roots (replicate mark a) m e p g;
      moved = block_moved roots (replicate mark a) m e p g;
      blocks = ((head_free g.invariant).4, unused, none, p.written);
      marked = block_marked roots (replicate mark a) m e p g ∙ occ_replicate mark a;
    })

-- a block in front of those stored
store_more : {L : Layout} {M M₁ M' : Memory} {linked : ℕ → ℕ} {n s p : ℕ} {before : List ℕ} (roots : List ℕ) (mark : ℕ) → mark ≤ 1 → (c unused d : List Cell) (chunks : List (List Cell)) (link : Cell) → NoPointers unused
    → StoreBlock L M₁ (unused ++ (c ++ (link ∷ []))) M' → M₁.linear_head ≡ p → Stored L M linked n s before M₁ link.fst 1 (pointers c ++ roots) (d ∷ chunks) → Stored L M linked n s before M' p mark roots (c ∷ d ∷ chunks)
store_more {M₁} roots mark h c unused d chunks link none p to r =
    let q = link.fst in
    let a = M₁.linear_head in
    let e : (b : ℕ) → b ≢ 0 → occ b (pointers (unused ++ (c ++ (link ∷ [])))) + occ b roots ≡ occ b (q ∷ (pointers c ++ roots)) =
    λ b nz. omega (arith, occ_pointers b unused (c ++ (link ∷ [])), none b nz, occ_pointers b c (link ∷ []), occ_append b (pointers c) roots) in
    let m : (b : ℕ) → occ b (replicate mark a) ≤ same b a = λ b. mark_once mark a b h in
    let g = r.outcome.consistent in
    let t = store_block roots (replicate mark a) m e p g in
    let k : occ q (q ∷ (pointers c ++ roots)) ≢ 0 = omega (arith, same_self q) in
    rw (← to) (record {
      frontier' = (block_acquired roots (replicate mark a) m e p g).frontier;
      outcome = record { linked' = t.linked'; consistent = t.consistent; preserved = preserved_then r.outcome.preserved t.preserved };
      moved = moved_then {u = spare t.consistent} r.moved (block_moved roots (replicate mark a) m e p g);
      blocks = ((head_free g.invariant).4, unused, none, link, p.written, t.preserved.marks q (start (object_nonzero M₁.fields r.outcome.linked' q d chunks r.blocks) k) ∙ r.marked, preserved_object t.preserved (d ∷ chunks) q (λ _. k) r.blocks);
      marked = block_marked roots (replicate mark a) m e p g ∙ occ_replicate mark a;
    })

pub store_object_lem : {L : Layout} {M M' : Memory} {linked : ℕ → ℕ} {n p : ℕ} {before : List ℕ} (roots : List ℕ) (mark : ℕ) → mark ≤ 1 → (c : List Cell) (chunks : List (List Cell)) → StoreObject L M c chunks M' p
    → ((b : ℕ) → occ b before ≡ occ b (pointers (concat (c ∷ chunks))) + occ b roots) → (g : Consistent L M linked n before) → Stored L M linked n (spare g) before M' p mark roots (c ∷ chunks)
store_object_lem roots mark h c [] s e g = store_last roots mark h c s.1 s.2 s.3 s.0 (λ b. omega (arith, e b, occ_pointers b c [])) g
store_object_lem {L} {M} {M'} {linked} {n} {p} {before} roots mark h c (d ∷ chunks) s e g =
    store_more roots mark h c s.2 d chunks s.4 s.3 s.6 s.1
    (store_object_lem {M' = s.0} (pointers c ++ roots) 1 (omega arith) d chunks s.5 (λ b. omega (arith, e b, occ_pointers b c (d ++ concat chunks), occ_append b (pointers c) roots)) g)
