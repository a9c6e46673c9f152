-- Each order takes the plain machine's step: variables that hold its values before hold them after, in a consistent heap.
-- The fresh heap holds no values.
use mathlib.Core.Path.{◌≡◌, refl, ap, ◌∙◌}
use mathlib.Core.List.{List, [], ◌∷◌, ◌++◌}
use Prim.Native.Nat.{ℕ, zero, suc, ◌+◌, ◌-◌, ◌<◌}
use native.Mathlib.Nat.{sub-zero}
use native.Mathlib.Omega.{arith}
use lib.ListN.{length, replicate, length-append}
use Rattle.heap.specs.Counting.{occ}
use Rattle.heap.specs.Blocks.{Layout, Cell, cell, pointers, Memory}
use Rattle.heap.specs.Values.{integer, object, Values, nil, cons, count_of, appended, first_of, rest_of, value_at, copies, concat, lengths}
use Rattle.heap.specs.Apart.{ObjectApart, HoldsApart, HoldAllApart}
use Rattle.heap.specs.Reachability.{ReachableCount}
use Rattle.heap.specs.Operations.{Erase, StoreObject, ReadObject, ReleaseObject, Share, ShareLoad, with_headers, with_lazy}
use Rattle.heap.specs.Orders.{HeapOrder, put, copy, drop, store, load, plain, Legal, Performs, puts, makes_copies, drops, stores_none, stores_some, loads_none, loads_last, loads_shared, Fresh}
use Rattle.heap.proofs.Invariant.{Consistent, spare, Stored, Represents, Advanced}
use Rattle.heap.proofs.CountingLemmas.{same_self, same_other, occ_append, occ_pointers}
use Rattle.heap.proofs.OperationLemmas.{named_held}
use Rattle.heap.proofs.ValueLemmas.{object_nonzero, read_is_held, hold_joined, hold_copies, hold_first, hold_rest, hold_at, hold_count, value_unlinked, first_all, rest_all, joined_nil, no_values}
use Rattle.heap.proofs.ConsistencyLemmas.{preserved_values, consistent_same_roots, drop_consistent}
use Rattle.heap.proofs.StoreLemmas.{store_object_lem}
use Rattle.heap.proofs.RoomLemmas.{store_room}
use Rattle.heap.proofs.LoadLemmas.{copy_consistent, shared_load_consistent, release_object}

unfoldable pub represents_fresh : {sizes : ℕ → List ℕ} {L : Layout} {M : Memory} → Fresh L M → Represents sizes L M 1 [] nil
represents_fresh {L} {M} f = record {
  linked = λ b. 0;
  consistent = record {
    linear_rest = [];
    lazy = [];
    live = [];
    invariant = record {
      linear_chain = (refl, f.zeroed M.linear_head);
      lazy_chain = f.second;
      parts = λ b. rw f.first (omega arith);
      lazy_live = λ b. omega arith;
      held_count = λ b nz l. omega arith;
      others_unnamed = λ b nz l. omega arith;
      newest_first = tt;
      untouched = λ i l. f.zeroed (L.address i);
      size = refl;
    };
    one_pointer = λ b nz m. omega arith;
    linked_live = λ b. omega arith;
  };
  holds = refl;
}

occ_copies : (b n : ℕ) (c : Cell) → occ b (pointers (replicate n c)) ≡ occ b (replicate n c.fst)
occ_copies b zero c = refl
occ_copies b (suc n) c = omega (arith, occ_copies b n c)

module _ {sizes : ℕ → List ℕ} {L : Layout} {M : Memory} {m : ℕ} {values : Values} where
  pub represents_put : (xs : List Cell) (w : ℕ) → Represents sizes L M m xs values → Represents sizes L M m (xs ++ (cell 0 w ∷ [])) (appended values (cons (integer w) nil))
  represents_put xs w s = record {
    linked = s.linked;
    consistent = consistent_same_roots (pointers (xs ++ (cell 0 w ∷ []))) (λ b nz. omega (arith, occ_pointers b xs (cell 0 w ∷ []), same_other {a = b} {b = 0} nz)) s.consistent;
    holds = hold_joined sizes M.fields s.linked values (cons (integer w) nil) xs (cell 0 w ∷ []) s.holds (cell 0 w, [], refl, (refl, refl), refl);
  }

  pub represents_copy : (xs ys : List Cell) (c : Cell) (n : ℕ) (header' : ℕ → ℕ) → Share (replicate n c.fst) M.header header' → Represents sizes L M m (xs ++ (c ∷ ys)) values
      → Represents sizes L (with_headers M header') m ((xs ++ (c ∷ ys)) ++ replicate n c) (appended values (copies n (value_at (length xs) values)))
  represents_copy xs ys c n header' e s =
      let variables = xs ++ (c ∷ ys) in
      let h = hold_at sizes M.fields s.linked xs c ys values s.holds in
      record {
        linked = s.linked;
        consistent = consistent_same_roots (pointers (variables ++ replicate n c))
            (λ b nz. omega (arith, occ_pointers b variables (replicate n c), occ_copies b n c, occ_append b (replicate n c.fst) (pointers variables)))
            (copy_consistent n c.fst header' e (omega (arith, occ_pointers c.fst xs (c ∷ ys), same_self c.fst)) (value_unlinked sizes M.fields s.linked (value_at (length xs) values) c h) s.consistent);
        holds = hold_joined sizes M.fields s.linked values (copies n (value_at (length xs) values)) variables (replicate n c) s.holds (hold_copies sizes M.fields s.linked n (value_at (length xs) values) c h);
      }

  -- the last variable's pointer first among the roots
  last_first : (xs : List Cell) (c : Cell) (s : Represents sizes L M m (xs ++ (c ∷ [])) values) → Consistent L M s.linked m (c.fst ∷ pointers xs)
  last_first xs c s = consistent_same_roots (c.fst ∷ pointers xs) (λ b nz. omega (arith, occ_pointers b xs (c ∷ []))) s.consistent

  pub represents_drop : (xs : List Cell) (c : Cell) (header' : ℕ → ℕ) (lazy-head' : ℕ) → Erase c.fst M.header M.lazy_head header' lazy-head' → Represents sizes L M m (xs ++ (c ∷ [])) values
      → Represents sizes L (with_lazy M header' lazy-head') m xs (first_of (length xs) values)
  represents_drop xs c header' lazy-head' e s = record {
    linked = s.linked;
    consistent = drop_consistent header' lazy-head' e (last_first xs c s);
    holds = hold_first sizes M.fields s.linked xs (c ∷ []) values s.holds;
  }

  pub represents_store_none : (xs : List Cell) (tag : ℕ) → [] ≡ sizes 0 → Represents sizes L M m xs values → Represents sizes L M m (xs ++ (cell 0 tag ∷ [])) (appended values (cons (object tag nil) nil))
  represents_store_none xs tag none s = record {
    linked = s.linked;
    consistent = consistent_same_roots (pointers (xs ++ (cell 0 tag ∷ []))) (λ b nz. omega (arith, occ_pointers b xs (cell 0 tag ∷ []), same_other {a = b} {b = 0} nz)) s.consistent;
    holds = hold_joined sizes M.fields s.linked values (cons (object tag nil) nil) xs (cell 0 tag ∷ []) s.holds (cell 0 tag, [], refl, (refl, (λ z. absurd (z refl)), [], refl, refl, none), refl);
  }

  pub represents_shared_load : (xs : List Cell) (c : Cell) (ws : Values) (chunks : List (List Cell)) (header' : ℕ → ℕ) (s : Represents sizes L M m (xs ++ (c ∷ [])) values) → ObjectApart M.fields s.linked c.fst chunks
      → HoldAllApart sizes M.fields s.linked ws (concat chunks) → ShareLoad c.fst chunks M.header header' → Represents sizes L (with_headers M header') m (xs ++ concat chunks) (appended (first_of (length xs) values) ws)
  represents_shared_load xs c ws chunks header' s o a q = record {
    linked = s.linked;
    consistent = consistent_same_roots (pointers (xs ++ concat chunks)) (λ b nb. omega (arith, occ_pointers b xs (concat chunks), occ_append b (pointers (concat chunks)) (pointers xs)))
        (shared_load_consistent sizes ws chunks header' q o a (last_first xs c s));
    holds = hold_joined sizes M.fields s.linked (first_of (length xs) values) ws xs (concat chunks) (hold_first sizes M.fields s.linked xs (c ∷ []) values s.holds) a;
  }

-- the roots are those stored and the rest
pub stored_roots : (xs ys : List Cell) (b : ℕ) → occ b (pointers (xs ++ ys)) ≡ occ b (pointers ys) + occ b (pointers xs)
stored_roots xs ys b = omega (arith, occ_pointers b xs ys)

what_is_stored : {sizes : ℕ → List ℕ} {L : Layout} {M M' : Memory} {m : ℕ} {values : Values} (xs c : List Cell) (chunks : List (List Cell)) (p : ℕ) → StoreObject L M c chunks M' p
    → (s : Represents sizes L M m (xs ++ concat (c ∷ chunks)) values) → Stored L M s.linked m (spare s.consistent) (pointers (xs ++ concat (c ∷ chunks))) M' p 0 (pointers xs) (c ∷ chunks)
what_is_stored xs c chunks p st s = store_object_lem (pointers xs) 0 (omega arith) c chunks st (stored_roots xs (concat (c ∷ chunks))) s.consistent

module _ {sizes : ℕ → List ℕ} {L : Layout} {M M' : Memory} {m : ℕ} {values : Values} where
  pub represents_store : (xs c : List Cell) (chunks : List (List Cell)) (p tag : ℕ) → lengths (c ∷ chunks) ≡ sizes (length (concat (c ∷ chunks))) → StoreObject L M c chunks M' p
      → Represents sizes L M m (xs ++ concat (c ∷ chunks)) values → Advanced sizes L m M' (xs ++ (cell p tag ∷ [])) (appended (first_of (length xs) values) (cons (object tag (rest_of (length xs) values)) nil))
  unfolding consistent_same_roots
  represents_store xs c chunks p tag shape st s =
      let ys = concat (c ∷ chunks) in
      let r = what_is_stored xs c chunks p st s in
      let linked = r.outcome.linked' in
      let k = r.outcome.preserved in
      let stored = hold_rest sizes M.fields s.linked xs ys values s.holds in
      record {
        frontier = r.frontier';
        not_back = r.moved.not_back;
        only_when_full = λ x. r.moved.only_when_full x;
        represents = record {
          linked = linked;
          consistent = consistent_same_roots (pointers (xs ++ (cell p tag ∷ []))) (λ b nz. omega (arith, occ_pointers b xs (cell p tag ∷ []))) r.outcome.consistent;
          holds = hold_joined sizes M'.fields linked (first_of (length xs) values) (cons (object tag (rest_of (length xs) values)) nil) xs (cell p tag ∷ [])
              (preserved_values k sizes (first_of (length xs) values) xs (λ b nz m. omega (arith, occ_pointers b xs ys)) (hold_first sizes M.fields s.linked xs ys values s.holds)) (
                cell p tag,
                [],
                refl,
                (
                  refl,
                  (λ _. r.marked),
                  c ∷ chunks,
                  r.blocks,
                  preserved_values k sizes (rest_of (length xs) values) ys (λ b nz m. omega (arith, occ_pointers b xs ys)) stored,
                  rw (hold_count sizes M.fields s.linked (rest_of (length xs) values) ys stored) shape,
                ),
                refl,
              );
        };
      }

  -- a load through the object's only pointer
  pub represents_release : (xs : List Cell) (c : Cell) (ws : Values) (d : List Cell) (chunks : List (List Cell)) (s : Represents sizes L M m (xs ++ (c ∷ [])) values) → ObjectApart M.fields s.linked c.fst (d ∷ chunks)
      → HoldAllApart sizes M.fields s.linked ws (concat (d ∷ chunks)) → M.header c.fst ≡ 0 → ReleaseObject M c.fst (d ∷ chunks) M'
      → Represents sizes L M' m (xs ++ concat (d ∷ chunks)) (appended (first_of (length xs) values) ws)
  represents_release xs c ws d chunks s o a z r =
      let ys = concat (d ∷ chunks) in
      let nz = object_nonzero M.fields s.linked c.fst d chunks o in
      let g = last_first xs c s in
      let q = release_object (pointers xs) d chunks g (omega (arith, (named_held c.fst nz (omega (arith, same_self c.fst)) g.invariant).count)) o r in
      let e : (b : ℕ) → occ b (pointers ys ++ pointers xs) ≡ occ b (pointers ys) + occ b (pointers xs) = λ b. occ_append b (pointers ys) (pointers xs) in
      record {
        linked = q.linked';
        consistent = consistent_same_roots (pointers (xs ++ ys)) (λ b nb. omega (arith, occ_pointers b xs ys, e b)) q.consistent;
        holds = hold_joined sizes M'.fields q.linked' (first_of (length xs) values) ws xs ys
            (preserved_values q.preserved sizes (first_of (length xs) values) xs (λ b nb m. omega (arith, e b)) (hold_first sizes M.fields s.linked xs (c ∷ []) values s.holds))
            (preserved_values q.preserved sizes ws ys (λ b nb m. omega (arith, e b)) a);
      }

module _ {sizes : ℕ → List ℕ} {L : Layout} {M : Memory} {m : ℕ} {values : Values} (M' : Memory) where
  -- the frontier after a store is below a bound that leaves room for the blocks
  pub store_below : (xs c : List Cell) (chunks : List (List Cell)) (p tag : ℕ) (shape : lengths (c ∷ chunks) ≡ sizes (length (concat (c ∷ chunks)))) (st : StoreObject L M c chunks M' p)
      (s : Represents sizes L M m (xs ++ concat (c ∷ chunks)) values) {k : ℕ} → ReachableCount M.fields (pointers (xs ++ concat (c ∷ chunks))) k → (bound : ℕ) → m < bound → suc (k + length (c ∷ chunks)) < bound
      → (represents_store {M' = M'} xs c chunks p tag shape st s).frontier < bound
  unfolding represents_store
  store_below xs c chunks p tag shape st s r bound low room =
      let ys = concat (c ∷ chunks) in
      store_room (pointers xs) c chunks st (stored_roots xs ys) s.consistent (what_is_stored xs c chunks p st s) r bound low room

-- ---- any order

-- what a load reads is what the variable's object holds
read_whole : (sizes : ℕ → List ℕ) (fields : ℕ → List Cell) (linked : ℕ → ℕ) (p n : ℕ) (d : List Cell) (chunks held : List (List Cell)) → ObjectApart fields linked p held → lengths held ≡ sizes n
    → lengths (d ∷ chunks) ≡ sizes n → ReadObject fields p d chunks → held ≡ d ∷ chunks
read_whole sizes fields linked p n d chunks [] o e e' r = cc
read_whole sizes fields linked p n d chunks (d' ∷ held) o e e' r = read_is_held fields linked p d' d held chunks o r (cc)

-- how many values an order stores
abbrev pub stored_by : HeapOrder → ℕ
stored_by (put w) = 0
stored_by (copy a n) = 0
stored_by drop = 0
stored_by (store n tag) = n
stored_by (load n) = 0

still : {sizes : ℕ → List ℕ} {L : Layout} {M : Memory} {m : ℕ} {variables : List Cell} {values : Values} → Represents sizes L M m variables values → Advanced sizes L m M variables values
still {m} s = record { frontier = m; represents = s; not_back = omega arith; only_when_full = λ x. absurd (omega arith) }

module _ {sizes : ℕ → List ℕ} {L : Layout} {M : Memory} {m : ℕ} {values : Values} where
  all_but_last : (xs : List Cell) (c : Cell) → Represents sizes L M m (xs ++ (c ∷ [])) values → count_of values - 1 ≡ length xs
  all_but_last xs c s = omega (arith, hold_count sizes M.fields s.linked values (xs ++ (c ∷ [])) s.holds, length-append xs (c ∷ []))

  last_object : (xs : List Cell) (c : Cell) (tag : ℕ) (ws : Values) (s : Represents sizes L M m (xs ++ (c ∷ [])) values) → value_at (count_of values - 1) values ≡ object tag ws
      → HoldsApart sizes M.fields s.linked (object tag ws) c
  last_object xs c tag ws s e =
      let h = hold_at sizes M.fields s.linked xs c [] values s.holds in
      let q : value_at (length xs) values ≡ object tag ws = rw (all_but_last xs c s) at e in
      rw q at h

  represents_load_none : (xs : List Cell) (c : Cell) (ws : Values) (chunks : List (List Cell)) (s : Represents sizes L M m (xs ++ (c ∷ [])) values) → [] ≡ sizes 0 → count_of ws ≡ 0
      → ObjectApart M.fields s.linked c.fst chunks → lengths chunks ≡ sizes (count_of ws) → Represents sizes L M m xs (appended (first_of (length xs) values) ws)
  represents_load_none xs c ws [] s none z o e =
      let q : ws ≡ nil = no_values ws z in
      rw (q, joined_nil) (record {
        linked = s.linked;
        consistent = consistent_same_roots (pointers xs) (λ b nb. omega (arith, occ_pointers b xs (c ∷ []), same_other {a = b} {b = c.fst} (λ g. nb (g ∙ o)))) s.consistent;
        holds = hold_first sizes M.fields s.linked xs (c ∷ []) values s.holds;
      })
  represents_load_none xs c ws (d ∷ chunks) s none z o e = let x : ◌≡◌ {A = ℕ} 0 1 = cc (ap sizes z) in absurd (omega arith)

  -- an order that acquires no block leaves the frontier
  pub represents_same : {o : HeapOrder} {variables variables' : List Cell} {M' : Memory} → [] ≡ sizes 0 → Performs sizes L M o variables M' variables' → Legal o values → stored_by o ≡ 0
      → Represents sizes L M m variables values → Represents sizes L M' m variables' (plain o values)
  unfolding plain Legal
  represents_same none (puts w xs) l k s = represents_put xs w s
  represents_same none (makes_copies xs ys c n header' e) l k s = represents_copy xs ys c n header' e s
  represents_same none (drops xs c header' lazy-head' e) l k s = rw (all_but_last xs c s) (represents_drop xs c header' lazy-head' e s)
  represents_same none (stores_none xs tag) l k s = rw (sub-zero, first_all, rest_all) (represents_store_none xs tag none s)
  represents_same none (stores_some xs c chunks M' p tag e st) l k s = let x : ◌≡◌ {A = ℕ} 0 1 = cc in absurd (omega arith)
  represents_same none (loads_none xs c) l k s =
      let h = last_object xs c l.0 l.1 s l.2 in
      rw (l.2, all_but_last xs c s) (represents_load_none xs c l.1 h.2 s none l.3 h.3 h.5)
  represents_same none (loads_last xs c n d chunks M' e rd z rl) l k s =
      let h = last_object xs c l.0 l.1 s l.2 in
      let f : h.2 ≡ d ∷ chunks = read_whole sizes M.fields s.linked c.fst (count_of l.1) d chunks h.2 h.3 h.5 (rw l.3 e) rd in
      rw (l.2, all_but_last xs c s) (represents_release xs c l.1 d chunks s (rw f at h.3) (rw f at h.4) z rl)
  represents_same none (loads_shared xs c n d chunks header' e rd q) l k s =
      let h = last_object xs c l.0 l.1 s l.2 in
      let f : h.2 ≡ d ∷ chunks = read_whole sizes M.fields s.linked c.fst (count_of l.1) d chunks h.2 h.3 h.5 (rw l.3 e) rd in
      rw (l.2, all_but_last xs c s) (represents_shared_load xs c l.1 (d ∷ chunks) header' s (rw f at h.3) (rw f at h.4) q)

  pub represents_order : {o : HeapOrder} {variables variables' : List Cell} {M' : Memory} → [] ≡ sizes 0 → Performs sizes L M o variables M' variables' → Legal o values
      → Represents sizes L M m variables values → Advanced sizes L m M' variables' (plain o values)
  unfolding plain Legal
  represents_order none (puts w xs) l s = still (represents_same none (puts w xs) l refl s)
  represents_order none (makes_copies xs ys c n header' e) l s = still (represents_same none (makes_copies xs ys c n header' e) l refl s)
  represents_order none (drops xs c header' lazy-head' e) l s = still (represents_same none (drops xs c header' lazy-head' e) l refl s)
  represents_order none (stores_none xs tag) l s = still (represents_same none (stores_none xs tag) l refl s)
  represents_order none (stores_some xs c chunks M' p tag e st) l s =
      let ys = c ++ concat chunks in
      let q : count_of values - length ys ≡ length xs = omega (arith, hold_count sizes M.fields s.linked values (xs ++ ys) s.holds, length-append xs ys) in
      rw q (represents_store xs c chunks p tag e st s)
  represents_order none (loads_none xs c) l s = still (represents_same none (loads_none xs c) l refl s)
  represents_order none (loads_last xs c n d chunks M' e rd z rl) l s = still (represents_same none (loads_last xs c n d chunks M' e rd z rl) l refl s)
  represents_order none (loads_shared xs c n d chunks header' e rd q) l s = still (represents_same none (loads_shared xs c n d chunks header' e rd q) l refl s)
