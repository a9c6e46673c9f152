-- Erase, release and acquire keep the invariant, and so does every change of counts and roots together: share, and the load of an object that stays.
-- Roots are told by an equation of counts, never by the shape of a list.
use mathlib.Core.Path.{◌≡◌, refl, sym, ap, ◌∙◌}
use mathlib.Core.Logic.{◌≢◌}
use mathlib.Core.List.{List, [], ◌∷◌, ◌++◌}
use Prim.Native.Nat.{ℕ, suc, ◌+◌, ◌≤◌, ◌<◌}
use native.Mathlib.Nat.{zero-add}
use native.Mathlib.Decide.{dec_lt}
use native.Mathlib.Omega.{arith}
use lib.ListN.{length}
use Rattle.heap.specs.Counting.{same, occ, refs}
use Rattle.heap.specs.Blocks.{Layout, blocks}
use Rattle.heap.specs.Operations.{Elsewhere, Erase, null, last_pointer, one_less, EraseAll, none, more, Acquire, from_linear, from_frontier, from_lazy}
use Rattle.heap.proofs.Invariant.{Invariant, Held, Acquired}
use Rattle.heap.proofs.CountingLemmas.{same_self, same_other, split, differ_by_occ, occ_append, Removed, remove, removed_occ, removed_refs, removed_length}
use Rattle.heap.proofs.BlockLemmas.{block_above, block_once, block_nonzero, other_than, chain_agree, chain_frame, refs_frame, newest_first_frame, removed_newest_first}

module _ {L : Layout} {children : ℕ → List ℕ} {header : ℕ → ℕ} {linear_head lazy_head frontier : ℕ} {linear_rest lazy live roots : List ℕ} where
  -- a block that a pointer names is held
  pub named_held : (b : ℕ) → b ≢ 0 → occ b roots + refs children b live ≢ 0 → Invariant L children header linear_head lazy_head frontier linear_rest lazy live roots
      → Held children header (linear_head ∷ linear_rest) lazy live roots b
  named_held b nz r v = by (dec_lt (occ b lazy) (occ b live))
    where
      by : Dec (occ b lazy < occ b live) → Held children header (linear_head ∷ linear_rest) lazy live roots b
      by (yes l) =
          let c = v.parts b in
          let o = block_once L frontier b in
          record { is_live = omega arith; not_lazy = omega arith; not_linear = omega arith; count = v.held_count b nz l }
      by (no l) = absurd (r (v.others_unnamed b nz (omega arith)))

  -- HEAP's block is neither live nor anywhere else on a list
  pub head_free : Invariant L children header linear_head lazy_head frontier linear_rest lazy live roots
      → (occ linear_head (blocks L frontier) ≡ 1) × (occ linear_head live ≡ 0) × (occ linear_head lazy ≡ 0) × (occ linear_head linear_rest ≡ 0) × (linear_head ≢ 0)
  head_free v =
      let c = v.parts linear_head in
      let s = same_self linear_head in
      let o = block_once L frontier linear_head in
      let w = v.lazy_live linear_head in
      (omega arith, omega arith, omega arith, omega arith, block_nonzero L frontier linear_head (omega arith))

  -- counts of held blocks change as the roots do
  pub recount : {header' : ℕ → ℕ} {roots' : List ℕ}
      → ((b : ℕ) → b ≢ 0 → occ b lazy < occ b live → occ b roots' + header b ≡ occ b roots + header' b)
      → ((b : ℕ) → b ≢ 0 → occ b live ≤ occ b lazy → (header' b ≡ header b) × (occ b roots' ≡ occ b roots))
      → Invariant L children header linear_head lazy_head frontier linear_rest lazy live roots → Invariant L children header' linear_head lazy_head frontier linear_rest lazy live roots'
  recount {header'} up off v = record {
    linear_chain = chain_agree header header' linear_head (linear_head ∷ linear_rest) 0
        (λ b m. (off b (block_nonzero L frontier b (omega (arith, v.parts b))) (omega (arith, v.parts b, block_once L frontier b))).0) v.linear_chain;
    lazy_chain = chain_agree header header' lazy_head lazy (L.address frontier)
        (λ b m. (off b (block_nonzero L frontier b (omega (arith, v.parts b, v.lazy_live b))) (omega (arith, v.parts b, block_once L frontier b))).0) v.lazy_chain;
    parts = v.parts;
    lazy_live = v.lazy_live;
    held_count = λ b nz l. omega (arith, v.held_count b nz l, up b nz l);
    others_unnamed = λ b nz l. omega (arith, v.others_unnamed b nz l, (off b nz l).1);
    newest_first = v.newest_first;
    untouched = λ i l. (off (L.address i) (L.nonzero i) (omega (arith, v.parts (L.address i), block_above L frontier i l))).0 ∙ v.untouched i l;
    size = v.size;
  }

  -- the roots count by their nonzero pointers
  pub same_roots : {roots' : List ℕ} → ((b : ℕ) → b ≢ 0 → occ b roots' ≡ occ b roots)
      → Invariant L children header linear_head lazy_head frontier linear_rest lazy live roots → Invariant L children header linear_head lazy_head frontier linear_rest lazy live roots'
  same_roots e v = recount (λ b nz l. omega (arith, e b nz)) (λ b nz l. (refl, e b nz)) v

  -- the fields of HEAP's block may be written
  pub write_head : (children' : ℕ → List ℕ) → ((b : ℕ) → b ≢ linear_head → children' b ≡ children b)
      → Invariant L children header linear_head lazy_head frontier linear_rest lazy live roots → Invariant L children' header linear_head lazy_head frontier linear_rest lazy live roots
  write_head children' off v =
      let y = head_free v in
      record {
        linear_chain = v.linear_chain;
        lazy_chain = v.lazy_chain;
        parts = v.parts;
        lazy_live = v.lazy_live;
        held_count = λ b nz l. omega (arith, v.held_count b nz l, refs_frame children children' linear_head off b live y.1);
        others_unnamed = λ b nz l. omega (arith, v.others_unnamed b nz l, refs_frame children children' linear_head off b live y.1);
        newest_first = newest_first_frame children children' linear_head off live y.1 v.newest_first;
        untouched = v.untouched;
        size = v.size;
      }

-- headers from the frontier up stay zero where a block below it is written
untouched_frame : (L : Layout) (n p : ℕ) (header header' : ℕ → ℕ) → occ p (blocks L n) ≢ 0 → Elsewhere p header header'
    → ((i : ℕ) → n ≤ i → header (L.address i) ≡ 0) → (i : ℕ) → n ≤ i → header' (L.address i) ≡ 0
untouched_frame L n p header header' q f z i l =
    let b = block_above L n i l in
    f (L.address i) (differ_by_occ (L.address i) p (blocks L n) (omega arith)) ∙ z i l

-- ---- erase and release

module _ {L : Layout} {children : ℕ → List ℕ} {p : ℕ} {header header' : ℕ → ℕ} {linear_head lazy_head frontier : ℕ} {linear_rest lazy live roots : List ℕ}
    (nz : p ≢ 0) (off : Elsewhere p header header') (v : Invariant L children header linear_head lazy_head frontier linear_rest lazy live (p ∷ roots)) where
  root_held : Held children header (linear_head ∷ linear_rest) lazy live (p ∷ roots) p
  root_held = named_held p nz (omega (arith, same_self p)) v

  erase_one_less : suc (header' p) ≡ header p → Invariant L children header' linear_head lazy_head frontier linear_rest lazy live roots
  erase_one_less at =
      let s = same_self p in
      let y = root_held in
      recount (split p (λ _ l. omega arith) (λ b f _ l. omega (arith, same_other f, off b f)))
      (split p (λ _ l. absurd (omega arith)) (λ b f _ l. (off b f, omega (arith, same_other f)))) v

  erase_last_pointer : header p ≡ 0 → header' p ≡ lazy_head → Invariant L children header' linear_head p frontier linear_rest (p ∷ lazy) live roots
  erase_last_pointer z at =
      let s = same_self p in
      let y = root_held in
      let c = v.parts p in
      record {
        linear_chain = chain_frame header header' p linear_head (linear_head ∷ linear_rest) 0 off y.not_linear v.linear_chain;
        lazy_chain = (refl, rw at (chain_frame header header' p lazy_head lazy (L.address frontier) off y.not_lazy v.lazy_chain));
        parts = v.parts;
        lazy_live = split p (omega arith) (λ b f. omega (arith, v.lazy_live b, same_other f));
        held_count = split p (λ _ l. omega arith) (λ b f nb l. omega (arith, v.held_count b nb (omega (arith, same_other f)), same_other f, off b f));
        others_unnamed = split p (λ _ l. omega arith) (λ b f nb l. omega (arith, v.others_unnamed b nb (omega (arith, same_other f)), same_other f));
        newest_first = v.newest_first;
        untouched = untouched_frame L frontier p header header' (omega arith) off v.untouched;
        size = v.size;
      }

  -- a block that only this pointer names goes onto the linear list, and its fields' pointers are roots
  pub release_block_lem : {live' : List ℕ} → header p ≡ 0 → header' p ≡ linear_head → Removed p live live'
      → Invariant L children header' p lazy_head frontier (linear_head ∷ linear_rest) lazy live' (children p ++ roots)
  release_block_lem z at q =
      let s = same_self p in
      let y = root_held in
      let c = v.parts p in
      record {
        linear_chain = (refl, rw at (chain_frame header header' p linear_head (linear_head ∷ linear_rest) 0 off y.not_linear v.linear_chain));
        lazy_chain = chain_frame header header' p lazy_head lazy (L.address frontier) off y.not_lazy v.lazy_chain;
        parts = λ b. omega (arith, v.parts b, removed_occ b q);
        lazy_live = split p (omega arith) (λ b f. omega (arith, v.lazy_live b, removed_occ b q, same_other f));
        held_count = split p (λ _ l. omega (arith, removed_occ p q))
            (λ b f nb l. omega (arith, v.held_count b nb (omega (arith, removed_occ b q)), same_other f, off b f, removed_refs children b q, occ_append b (children p) roots));
        others_unnamed = split p (λ _ l. omega (arith, removed_refs children p q, occ_append p (children p) roots))
            (λ b f nb l. omega (arith, v.others_unnamed b nb (omega (arith, removed_occ b q, same_other f)), same_other f, removed_refs children b q, occ_append b (children p) roots));
        newest_first = removed_newest_first children q v.newest_first (omega arith);
        untouched = untouched_frame L frontier p header header' (omega arith) off v.untouched;
        size = omega (arith, v.size, removed_length q);
      }

module _ {L : Layout} {children : ℕ → List ℕ} where
  pub erase_pointer : {p : ℕ} {header header' : ℕ → ℕ} {linear_head lazy_head lazy-head' frontier : ℕ} {linear_rest lazy live roots : List ℕ} → Erase p header lazy_head header' lazy-head'
      → Invariant L children header linear_head lazy_head frontier linear_rest lazy live (p ∷ roots)
      → (lazy' : List ℕ) × Invariant L children header' linear_head lazy-head' frontier linear_rest lazy' live roots
  erase_pointer {p} {lazy} (null z e) v = (lazy, rw e (same_roots (λ b nz. omega (arith, same_other {a = b} {b = p} (omega arith))) v))
  erase_pointer {p} {lazy} (last_pointer nz z at off) v = (p ∷ lazy, erase_last_pointer nz off v z at)
  erase_pointer {lazy} (one_less nz at off) v = (lazy, erase_one_less nz off v at)

  pub erase_pointers : {ps : List ℕ} {header header' : ℕ → ℕ} {linear_head lazy_head lazy-head' frontier : ℕ} {linear_rest lazy live : List ℕ} (roots : List ℕ) → EraseAll ps header lazy_head header' lazy-head'
      → Invariant L children header linear_head lazy_head frontier linear_rest lazy live (ps ++ roots)
      → (lazy' : List ℕ) × Invariant L children header' linear_head lazy-head' frontier linear_rest lazy' live roots
  erase_pointers {lazy} roots none v = (lazy, v)
  erase_pointers roots (more e es) v = erase_pointers roots es (erase_pointer e v).1

-- ---- acquire: the pointers in the block's fields leave the roots, and the block itself is a root

module _ {L : Layout} {children : ℕ → List ℕ} {header : ℕ → ℕ} {linear_head lazy_head frontier : ℕ} {live : List ℕ} (roots : List ℕ) where
  acquire_linear : {header' : ℕ → ℕ} {y : ℕ} {ys lazy : List ℕ} → Invariant L children header linear_head lazy_head frontier (y ∷ ys) lazy live (children linear_head ++ roots)
      → Elsewhere linear_head header header' → header' linear_head ≡ 0 → Invariant L children header' y lazy_head frontier ys lazy (linear_head ∷ live) (linear_head ∷ roots)
  acquire_linear {header'} {y} {ys} {lazy} v off at =
      let e = head_free v in
      let s = same_self linear_head in
      let d = v.others_unnamed linear_head e.4 (omega arith) in
      record {
        linear_chain = (refl, chain_frame header header' linear_head (header' y) ys 0 off (omega arith) (rw (off y (other_than linear_head y (omega arith))) v.linear_chain.1.1));
        lazy_chain = chain_frame header header' linear_head lazy_head lazy (L.address frontier) off e.2 v.lazy_chain;
        parts = λ b. omega (arith, v.parts b);
        lazy_live = λ b. omega (arith, v.lazy_live b);
        held_count = split linear_head (λ _ l. omega (arith, occ_append linear_head (children linear_head) roots))
            (λ b f nb l. omega (arith, same_other f, off b f, v.held_count b nb (omega (arith, same_other f)), occ_append b (children linear_head) roots));
        others_unnamed = split linear_head (λ _ l. omega arith) (λ b f nb l. omega (arith, same_other f, v.others_unnamed b nb (omega (arith, same_other f)), occ_append b (children linear_head) roots));
        newest_first = (λ b nb z. omega (arith, v.others_unnamed b nb (omega arith), occ_append b (children linear_head) roots), v.newest_first);
        untouched = untouched_frame L frontier linear_head header header' (omega arith) off v.untouched;
        size = omega (arith, v.size);
      }

  acquire_frontier : Invariant L children header linear_head lazy_head frontier [] [] live (children linear_head ++ roots)
      → Invariant L children header (L.address frontier) (L.address (suc frontier)) (suc frontier) [] [] (linear_head ∷ live) (linear_head ∷ roots)
  acquire_frontier v =
      let e = head_free v in
      let s = same_self linear_head in
      let d = v.others_unnamed linear_head e.4 (omega arith) in
      record {
        linear_chain = (refl, v.untouched frontier (omega arith));
        lazy_chain = refl;
        parts = λ b. omega (arith, v.parts b);
        lazy_live = λ b. omega arith;
        held_count = split linear_head (λ _ l. omega (arith, occ_append linear_head (children linear_head) roots, v.linear_chain.1))
            (λ b f nb l. omega (arith, same_other f, v.held_count b nb (omega (arith, same_other f)), occ_append b (children linear_head) roots));
        others_unnamed = split linear_head (λ _ l. omega arith) (λ b f nb l. omega (arith, same_other f, v.others_unnamed b nb (omega (arith, same_other f)), occ_append b (children linear_head) roots));
        newest_first = (λ b nb z. omega (arith, v.others_unnamed b nb (omega arith), occ_append b (children linear_head) roots), v.newest_first);
        untouched = λ i l. v.untouched i (omega arith);
        size = omega (arith, v.size);
      }

  -- the lazy list's first block is HEAP's next, and its children are still to be erased
  pub acquire_lazy : {header' : ℕ → ℕ} {ys live' : List ℕ} → Invariant L children header linear_head lazy_head frontier [] (lazy_head ∷ ys) live (children linear_head ++ roots)
      → Elsewhere lazy_head header header' → header' lazy_head ≡ 0 → Removed lazy_head live live'
      → Invariant L children header' lazy_head (header lazy_head) frontier [] ys (linear_head ∷ live') (children lazy_head ++ (linear_head ∷ roots))
  acquire_lazy {header'} {ys} {live'} v off at q =
      let e = head_free v in
      let s = same_self linear_head in
      let s₂ = same_self lazy_head in
      let c = v.parts lazy_head in
      let o = block_once L frontier lazy_head in
      let w = v.lazy_live lazy_head in
      let nz = block_nonzero L frontier lazy_head (omega arith) in
      let d = v.others_unnamed linear_head e.4 (omega arith) in
      let d₂ = v.others_unnamed lazy_head nz (omega arith) in
      let ne = other_than lazy_head linear_head (omega arith) in
      record {
        linear_chain = (refl, at);
        lazy_chain = chain_frame header header' lazy_head (header lazy_head) ys (L.address frontier) off (omega arith) v.lazy_chain.1;
        parts = λ b. omega (arith, v.parts b, removed_occ b q);
        lazy_live = λ b. omega (arith, v.lazy_live b, removed_occ b q);
        held_count = split linear_head
            (λ _ l. omega (arith, occ_append linear_head (children linear_head) roots, occ_append linear_head (children lazy_head) (linear_head ∷ roots), removed_refs children linear_head q, v.linear_chain.1, off linear_head ne))
            (λ b f nb l. omega (
              arith,
              same_other f,
              removed_occ b q,
              removed_refs children b q,
              off b (differ_by_occ b lazy_head live' (omega (arith, same_other f, removed_occ lazy_head q))),
              v.held_count b nb (omega (arith, same_other f, removed_occ b q)),
              occ_append b (children linear_head) roots,
              occ_append b (children lazy_head) (linear_head ∷ roots),
            ));
        others_unnamed = split linear_head (λ _ l. omega (arith, v.lazy_live linear_head))
            (λ b f nb l. omega (arith, same_other f, removed_refs children b q, v.others_unnamed b nb (omega (arith, same_other f, removed_occ b q)), occ_append b (children linear_head) roots, occ_append b (children lazy_head) (linear_head ∷ roots)));
        newest_first = (λ b nb z. omega (arith, v.others_unnamed b nb (omega (arith, removed_occ b q)), occ_append b (children linear_head) roots), removed_newest_first children q v.newest_first (omega arith));
        untouched = untouched_frame L frontier lazy_head header header' (omega arith) off v.untouched;
        size = omega (arith, v.size, removed_length q);
      }

-- a block's pointers before, and one more for the block acquired
abbrev pub one_more : (ℕ → List ℕ) → ℕ → List ℕ → List ℕ → ℕ → ℕ
one_more children linear_head live roots b = same b linear_head + (occ b (children linear_head ++ roots) + refs children b live)

module _ {L : Layout} {children : ℕ → List ℕ} {header : ℕ → ℕ} {linear_head lazy_head lazy-head' frontier : ℕ} {live : List ℕ} (roots : List ℕ) where
  acquired_frontier : (lazy : List ℕ) → header lazy_head ≡ 0 → ((n : ℕ) → lazy_head ≡ L.address n → lazy-head' ≡ L.address (suc n))
      → Invariant L children header linear_head lazy_head frontier [] lazy live (children linear_head ++ roots)
      → Acquired L children header lazy_head lazy-head' (linear_head ∷ roots) frontier (length lazy) (one_more children linear_head live roots)
  acquired_frontier [] z up v = record {
    frontier = suc frontier;
    linear_rest = [];
    lazy = [];
    live = linear_head ∷ live;
    invariant = rw (v.lazy_chain, up frontier v.lazy_chain) (acquire_frontier roots v);
    pointers_most = λ b. omega (arith, occ_append b (children linear_head) roots);
    moved = record { not_back = omega arith; only_when_full = λ _. refl; stays_full = λ _. refl };
  }
  acquired_frontier (b ∷ []) z up v = absurd (L.nonzero frontier (sym v.lazy_chain.1 ∙ ap header (sym v.lazy_chain.0) ∙ z))
  acquired_frontier (b ∷ c ∷ ys) z up v =
      let s = same_self c in
      absurd (block_nonzero L frontier c (omega (arith, v.lazy_live c, v.parts c)) (sym v.lazy_chain.1.0 ∙ ap header (sym v.lazy_chain.0) ∙ z))

  acquired_lazy : {header₁ header' : ℕ → ℕ} (lazy : List ℕ) → header lazy_head ≢ 0 → header₁ lazy_head ≡ 0 → Elsewhere lazy_head header header₁
      → EraseAll (children lazy_head) header₁ (header lazy_head) header' lazy-head'
      → Invariant L children header linear_head lazy_head frontier [] lazy live (children linear_head ++ roots)
      → Acquired L children header' lazy_head lazy-head' (linear_head ∷ roots) frontier (length lazy) (one_more children linear_head live roots)
  acquired_lazy [] nz at off es v = absurd (nz (ap header v.lazy_chain ∙ v.untouched frontier (omega arith)))
  acquired_lazy (b ∷ ys) nz at off es v =
      let v₁ : Invariant L children header linear_head lazy_head frontier [] (lazy_head ∷ ys) live (children linear_head ++ roots) = rw (← v.lazy_chain.0) at v in
      let s = same_self lazy_head in
      let q = remove lazy_head live (omega (arith, v₁.lazy_live lazy_head)) in
      let r = erase_pointers (linear_head ∷ roots) es (acquire_lazy roots v₁ off at q.1) in
      record {
        frontier = frontier;
        linear_rest = [];
        lazy = r.0;
        live = linear_head ∷ q.0;
        invariant = r.1;
        pointers_most = λ b. omega (arith, removed_refs children b q.1, occ_append b (children linear_head) roots);
        moved = record { not_back = omega arith; only_when_full = λ x. omega arith; stays_full = λ x. omega arith };
      }

-- the linear list has more blocks just if HEAP's header is not zero
pub rest_nonzero : {L : Layout} {children : ℕ → List ℕ} {header : ℕ → ℕ} {linear_head lazy_head frontier y : ℕ} {ys lazy live roots : List ℕ}
    → Invariant L children header linear_head lazy_head frontier (y ∷ ys) lazy live roots → header linear_head ≢ 0
rest_nonzero {L} {frontier} {y} v z = let s = same_self y in block_nonzero L frontier y (omega (arith, v.parts y)) (sym v.linear_chain.1.0 ∙ z)

acquired : {L : Layout} {children : ℕ → List ℕ} {header header' : ℕ → ℕ} {linear_head lazy_head linear-head' lazy-head' frontier : ℕ} {lazy live : List ℕ} (roots linear_rest : List ℕ)
    → Acquire L children header linear_head lazy_head header' linear-head' lazy-head'
    → Invariant L children header linear_head lazy_head frontier linear_rest lazy live (children linear_head ++ roots)
    → Acquired L children header' linear-head' lazy-head' (linear_head ∷ roots) frontier (length linear_rest + length lazy) (one_more children linear_head live roots)
acquired roots [] (from_linear nz at off) v = absurd (nz v.linear_chain.1)
acquired {lazy} roots [] (from_frontier z zf e up) v = rw (e, zero-add) (acquired_frontier roots lazy zf up v)
acquired {lazy} roots [] (from_lazy z nz at off es) v = rw zero-add (acquired_lazy roots lazy nz at off es v)
acquired {children} {linear_head} {frontier} {lazy} {live} roots (y ∷ ys) (from_linear nz at off) v = record {
  frontier = frontier;
  linear_rest = ys;
  lazy = lazy;
  live = linear_head ∷ live;
  invariant = rw v.linear_chain.1.0 (acquire_linear roots v off at);
  pointers_most = λ b. omega (arith, occ_append b (children linear_head) roots);
  moved = record { not_back = omega arith; only_when_full = λ x. omega arith; stays_full = λ x. omega arith };
}
acquired roots (y ∷ ys) (from_frontier z zf e up) v = absurd (rest_nonzero v z)
acquired roots (y ∷ ys) (from_lazy z nz at off es) v = absurd (rest_nonzero v z)

pub acquire_block_lem : {L : Layout} {children : ℕ → List ℕ} {header header' : ℕ → ℕ} {linear_head lazy_head linear-head' lazy-head' frontier : ℕ} {linear_rest lazy live : List ℕ} (roots : List ℕ)
    → Acquire L children header linear_head lazy_head header' linear-head' lazy-head'
    → Invariant L children header linear_head lazy_head frontier linear_rest lazy live (children linear_head ++ roots)
    → Acquired L children header' linear-head' lazy-head' (linear_head ∷ roots) frontier (length linear_rest + length lazy) (one_more children linear_head live roots)
acquire_block_lem {linear_rest} roots a v = acquired roots linear_rest a v
