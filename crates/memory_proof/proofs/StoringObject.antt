-- A store of one value or more does the abstract heap's store of an object.
use mathlib.Core.Bool.{Bool}
use mathlib.Core.List.{List, [], ◌∷◌, ◌++◌, append_assoc, append-nil}
use mathlib.Core.Logic.{◌≢◌}
use mathlib.Core.Path.{◌≡◌, refl, sym, ◌∙◌, ap}
use Prim.Native.Nat.{ℕ, zero, suc, ◌+◌, ◌-◌, ◌*◌, ◌≤◌, ◌<◌}
use native.Mathlib.Nat.{zero-add}
use native.Mathlib.Decide.{dec_lt}
use native.Mathlib.Omega.{arith}
use lib.ListN.{length}
use Rattle.trees.specs.Tree.{seq}
use Rattle.layout.specs.declared.config.Shape.{Shape}
use Rattle.layout.specs.Config.{link_word, positions, fst_offset}
use Rattle.layout.specs.Positions.{location}
use Rattle.machine_step.specs.Step.{Config}
use Rattle.memory.specs.Blocks.{store_field}
use Rattle.memory.specs.Objects.{chunks, store_values, store_other, store_others, store_some, other_sizes, some_sizes}
use Rattle.heap.specs.Blocks.{Cell, cell, pointers, Memory, Chain}
use Rattle.heap.specs.Counting.{occ}
use Rattle.heap.proofs.CountingLemmas.{occ_pointers}
use Rattle.heap.proofs.Invariant.{Consistent, spare}
use Rattle.heap.specs.Operations.{StoreObject}
use Rattle.heap.specs.Reachability.{ReachableCount}
use Rattle.heap.proofs.RoomLemmas.{reachable_counted, store_room}
use Rattle.heap.proofs.StoreLemmas.{store_object_lem}
use Rattle.heap.specs.Values.{concat, lengths}
use Rattle.heap.specs.Words.{word_at, block_fields}
use Rattle.heap.proofs.GrowthLemmas.{lengths_length}
use Rattle.layout_proof.specs.Held.{held, Keeps, Placed}
use Rattle.layout_proof.proofs.Operands.{block_address}
use Rattle.layout_proof.proofs.HeldLemmas.{location_free, keeps_refl, keeps_trans, keeps_sub, keeps_register, placed_keeps, location_grows, location_fits, location_order}
use Rattle.layout_proof.proofs.Runs.{Does, one, then, weaken}
use Rattle.memory_proof.proofs.Acquiring.{Low, Within, heap_ok_lem}
use Rattle.memory_proof.proofs.Attempting.{Attempts, does, attempt_then, attempt_weaken, attempt_why, attempt_regroup}
use Rattle.memory_proof.proofs.Shown.{L, heap_of}
use Rattle.memory_proof.proofs.Sizes.{other_sizes_length, Chunked, chunks_chunked, chunked_next}
use Rattle.memory_proof.proofs.Storing.{store_field_lem, store_values_lem}
use Rattle.memory_proof.proofs.StoringBlock.{BlockWritten, filled_last, filled_other, store_block}
use Rattle.memory_proof.proofs.Variables.{variables, variables_append, variables_length, variables_pointers, variables_kept}

below : (p q a : ℕ) → p ≤ q → a < location p → a ≢ location q
below p q a h l = omega (arith, location_order p q h)

module _ (G : Shape) (ext : ℕ → Bool) where
  -- what the code leaves: the object's blocks, and all that lies below
  pub record BlocksStored (M : Memory) (s : Config) (r m k : ℕ) (tail : List Cell) (shape : List ℕ) (u : Config) : Type 0 where
    pub head : List Cell
    pub others : List (List Cell)
    pub did : StoreObject (L G) M head others (heap_of G u) (held u (location (2 * r)))
    pub cells : concat (head ∷ others) ≡ variables ext s r k ++ tail
    pub shapes : lengths (head ∷ others) ≡ other_sizes (G.fields - 1) m k shape
    pub keeps : Keeps (λ x. Low x × (x < location (2 * r))) s u

  -- the same of a whole object
  pub record ObjectStored (M : Memory) (s : Config) (r k : ℕ) (u : Config) : Type 0 where
    pub head : List Cell
    pub others : List (List Cell)
    pub did : StoreObject (L G) M head others (heap_of G u) (held u (location (2 * r)))
    pub cells : concat (head ∷ others) ≡ variables ext s r k
    pub shapes : lengths (head ∷ others) ≡ some_sizes G k
    pub keeps : Keeps (λ x. Low x × (x < location (2 * r))) s u

  -- what a run from u on has stored, where u keeps what lies below: as stored from s on, and as a whole object
  module _ {M : Memory} (s u t : Config) {r m k : ℕ} {tail : List Cell} {shape : List ℕ} (y : BlocksStored M u r m k tail shape t) (below : Keeps (λ x. Low x × (x < location (2 * r))) s u) where
    stored_more : {m' n : ℕ} {tail' : List Cell} {shape' : List ℕ} → variables ext u r k ++ tail ≡ variables ext s r n ++ tail' → other_sizes (G.fields - 1) m k shape ≡ other_sizes (G.fields - 1) m' n shape' → BlocksStored M s r m' n tail' shape' t
    stored_more c e = record { head = y.head; others = y.others; did = y.did; cells = y.cells ∙ c; shapes = y.shapes ∙ e; keeps = keeps_trans below y.keeps }

    stored_whole : {n : ℕ} → variables ext u r k ++ tail ≡ variables ext s r n → other_sizes (G.fields - 1) m k shape ≡ some_sizes G n → ObjectStored M s r n t
    stored_whole c e = record { head = y.head; others = y.others; did = y.did; cells = y.cells ∙ c; shapes = y.shapes ∙ e; keeps = keeps_trans below y.keeps }

chain_empty : (h : ℕ → ℕ) (first end : ℕ) (lazy : List ℕ) → length lazy ≡ 0 → Chain h first lazy end → first ≡ end
chain_empty h first end [] z c = c
chain_empty h first end (b ∷ bs) z c = absurd (omega arith)

-- the frontier after a store or part of it is within the heap, if FREE is: it has moved only where no block is lazily freed, so that FREE is at it
pub frontier_within : (G : Shape) {N n m : ℕ} {M : Memory} {linked : ℕ → ℕ} {roots : List ℕ} (g : Consistent (L G) M linked m roots) → (n < m → spare g ≡ 0) → n ≤ N → Within G N M.lazy_head → m ≤ N
frontier_within G {N} {n} {m} g full le free = by (dec_lt n m)
  where
    by : Dec (n < m) → m ≤ N
    by (no l) = omega arith
    by (yes l) =
        let z = full l in
        let e = chain_empty _ _ _ g.lazy (omega arith) g.invariant.lazy_chain in
        let d : block_address G free.0 ≡ block_address G m = sym free.2 ∙ e in
        omega (arith, free.1, (L G).distinct free.0 m d)

module _ (G : Shape) (words : ℕ → ℕ) (ext : ℕ → Bool) where
  module _ {N n count : ℕ} (M : Memory) {i : ℕ → ℕ} (A : List ℕ) (g : Consistent (L G) M i n A) (B : ℕ) (counted : ReachableCount M.fields A count) (le : n ≤ N) where
    -- why it may fault: the heap has no room for the blocks reachable before the store and those it acquires
    abbrev NoRoom : Type 0
    NoRoom = count + B < N → n < N → ⊥

    other_does : (s : Config) (d : List Cell) (ch : List (List Cell)) (v k : ℕ) → suc (length ch) < B → k ≤ G.fields - 1 → 2 * (v + k) < positions G → Placed G N s → StoreObject (L G) M d ch (heap_of G s) (held s (location (2 * (v + k))))
        → ((b : ℕ) → occ b A ≡ occ b (pointers (concat (d ∷ ch))) + occ b (pointers (variables ext s 0 (v + k))))
        → Within G N (s.state.reg 3)
        → Attempts words (store_other G ext v k) s NoRoom (λ u. StoreObject (L G) M (variables ext s v k) (d ∷ ch) (heap_of G u) (held u (location (2 * v))) × Within G N (u.state.reg 3) × Keeps (λ x. Low x × (x ≢ location (2 * v))) s u)
    other_does s d ch v k lb₀ h f en st e free =
        let p : ℕ = held s (location (2 * (v + k))) in
        let y = store_object_lem (pointers (variables ext s 0 (v + k))) 1 (omega arith) d ch st e g in
        let fr : y.frontier' ≤ N = frontier_within G y.outcome.consistent y.moved.only_when_full le free in
        let j = heap_ok_lem G y.outcome.consistent.invariant in
        let ln : j.0 < N = omega (arith, j.1, fr) in
        let w : ℕ = s.state.mem (word_at G.fields j.0 (3 + 2 * (G.fields - 1))) in
        let c : List Cell = variables ext s v k ++ (cell p w ∷ []) in
        let lb = location_fits G (2 * v) (omega arith) in
        let fill : Does words (seq (store_field G (location (2 * (v + k))) 2 (fst_offset (G.fields - 1))) (store_values G ext v k (G.fields - 1))) s (λ r. BlockWritten G (s.state.reg 2) s.state.mem c r.state.mem × Keeps (λ x. x ≢ 1) s r)
        = then (store_field_lem words s (location (2 * (v + k))) j.0 (fst_offset (G.fields - 1)) (link_word G) en j.2 ln (omega arith) (omega (arith, en.shape.some)) (location_fits G (2 * (v + k)) (omega arith)).1) (λ r z.
        let vs : variables ext r v k ≡ variables ext s v k = variables_kept ext s r v k (λ q a b. omega (arith, (location_free q).0)) z.1 in
        weaken (λ u x. (filled_other en.shape ext s r v k j.0 u.state.mem p h j.2 z.0 vs x.0, keeps_trans z.1 x.1))
        (store_values_lem words ext r v k (G.fields - 1) j.0 (placed_keeps (omega arith) z.1 en) (keeps_register z.1 2 (omega arith) (omega arith) ∙ j.2) ln h (omega arith) (omega arith))) in
        let occs : (b : ℕ) → b ≢ 0 → occ b (pointers c) + occ b (pointers (variables ext s 0 v)) ≡ occ b (p ∷ pointers (variables ext s 0 (v + k)))
        = λ b nz. omega (arith, occ_pointers b (variables ext s v k) (cell p w ∷ []), ap (λ (x : List Cell). occ b (pointers x)) (variables_append ext s 0 v k), occ_pointers b (variables ext s 0 v) (variables ext s (0 + v) k), ap (λ (x : ℕ). occ b (pointers (variables ext s x k))) (zero-add v)) in
        attempt_regroup (attempt_why (λ o room lt. o (store_room (pointers (variables ext s 0 (v + k))) d ch st e g y counted N lt (omega arith))) (attempt_weaken (λ u x. ((heap_of G s, sym x.3, x.0, x.1, cell p w, st, x.2), x.4, x.5))
        (store_block words (pointers (variables ext s 0 v)) s (location (2 * v)) c en fr (omega (arith, variables_pointers ext s 0 v)) lb.0 lb.1 y.outcome.consistent occs fill)))

    -- what m blocks do with k variables, where blocks have been stored
    abbrev Others : ℕ → ℕ → Type 0
    Others m k =
        (s : Config) (d : List Cell) (ch : List (List Cell)) (r : ℕ) → m + length (lengths (d ∷ ch)) ≤ B → 2 * (r + k) < positions G → Placed G N s
        → StoreObject (L G) M d ch (heap_of G s) (held s (location (2 * (r + k))))
        → ((b : ℕ) → occ b A ≡ occ b (pointers (concat (d ∷ ch))) + occ b (pointers (variables ext s 0 (r + k))))
        → Within G N (s.state.reg 3) → Attempts words (store_others G ext m r k) s NoRoom (λ u. BlocksStored G ext M s r m k (concat (d ∷ ch)) (lengths (d ∷ ch)) u × Within G N (u.state.reg 3))

    -- one block of y variables, and the x before them
    others_next : (m k x y : ℕ) → k ≡ x + y → y ≤ G.fields - 1 → ((xs : List ℕ) → other_sizes (G.fields - 1) m x (y ∷ xs) ≡ other_sizes (G.fields - 1) (suc m) k xs) → Others m x
        → (s : Config) (d : List Cell) (ch : List (List Cell)) (r : ℕ) → suc m + length (lengths (d ∷ ch)) ≤ B → 2 * (r + k) < positions G → Placed G N s
        → StoreObject (L G) M d ch (heap_of G s) (held s (location (2 * (r + k))))
        → ((b : ℕ) → occ b A ≡ occ b (pointers (concat (d ∷ ch))) + occ b (pointers (variables ext s 0 (r + k))))
        → Within G N (s.state.reg 3) → Attempts words (seq (store_other G ext (r + x) y) (store_others G ext m r x)) s NoRoom (λ u. BlocksStored G ext M s r (suc m) k (concat (d ∷ ch)) (lengths (d ∷ ch)) u × Within G N (u.state.reg 3))
    others_next m k x y n h sizes more s d ch r lb₀ f en st e free =
        let q : r + k ≡ r + x + y = omega arith in
        let st₁ : StoreObject (L G) M d ch (heap_of G s) (held s (location (2 * (r + x + y)))) = rw q at st in
        let e₁ : (b : ℕ) → occ b A ≡ occ b (pointers (concat (d ∷ ch))) + occ b (pointers (variables ext s 0 (r + x + y))) = λ b. rw q at (e b) in
        attempt_then (other_does s d ch (r + x) y (omega (arith, lengths_length ch)) h (omega arith) en st₁ e₁ free) (λ u z.
        let agree : (v k : ℕ) → v + k ≤ r + x → variables ext u v k ≡ variables ext s v k
        = λ v k h. variables_kept ext s u v k (λ p a b. let w = location_grows p (2 * (r + x)) (omega arith) in (omega (arith, w.0), omega (arith, w.1))) z.2 in
        let two : variables ext s r (x + y) ≡ variables ext s r x ++ variables ext s (r + x) y = variables_append ext s r x y in
        let joined : variables ext u r x ++ concat (variables ext s (r + x) y ∷ d ∷ ch) ≡ variables ext s r k ++ concat (d ∷ ch)
        = rw (agree r x (omega arith)) (sym (append_assoc (variables ext s r x) (variables ext s (r + x) y) (concat (d ∷ ch))) ∙ ap (λ (c : List Cell). c ++ concat (d ∷ ch)) (sym two ∙ ap (variables ext s r) (sym n))) in
        let shaped : other_sizes (G.fields - 1) m x (lengths (variables ext s (r + x) y ∷ d ∷ ch)) ≡ other_sizes (G.fields - 1) (suc m) k (lengths (d ∷ ch))
        = ap (λ (c : ℕ). other_sizes (G.fields - 1) m x (c ∷ lengths (d ∷ ch))) (variables_length ext s (r + x) y) ∙ sizes (lengths (d ∷ ch)) in
        attempt_weaken (λ t w. (stored_more G ext s u t w.0 (keeps_sub (λ a b. (b.0, below (2 * r) (2 * (r + x)) a (omega arith) b.1)) z.2) {m' = suc m} {n = k} joined shaped, w.1))
        (more u (variables ext s (r + x) y) (d ∷ ch) r (omega arith) (omega arith) (placed_keeps (omega (arith, (location_fits G (2 * (r + x)) (omega arith)).0)) z.2 en) z.0
        (λ b. rw (agree 0 (r + x) (omega arith)) (omega (arith, e₁ b, occ_pointers b (variables ext s (r + x) y) (concat (d ∷ ch)), ap (λ (c : List Cell). occ b (pointers c)) (variables_append ext s 0 (r + x) y), occ_pointers b (variables ext s 0 (r + x)) (variables ext s (0 + (r + x)) y), ap (λ (c : ℕ). occ b (pointers (variables ext s c y))) (zero-add (r + x))))) z.1))

    others_does : (m k : ℕ) → Chunked (G.fields - 1) m k → Others m k
    others_does zero zero h s d ch r lb₀ f en st e free =
        let q : r + 0 ≡ r = omega arith in
        does (one refl (record { head = d; others = ch; did = rw q at st; cells = refl; shapes = refl; keeps = keeps_refl }, free))
    others_does zero (suc k) h s d ch r lb₀ f en st e free = absurd (omega (arith, h.enough))
    others_does (suc m) k h s d ch r lb₀ f en st e free =
        others_next m k (k - (G.fields - 1)) (k - (k - (G.fields - 1))) (omega arith) (omega arith) (λ xs. refl) (others_does m (k - (G.fields - 1)) (chunked_next h).0) s d ch r lb₀ f en st e free

module _ {G : Shape} (words : ℕ → ℕ) (ext : ℕ → Bool) where
  -- a store of some: every variable is in the object's blocks, by its size's shape
  pub store_attempts : {N n : ℕ} {i : ℕ → ℕ} (s : Config) (r k : ℕ) → Placed G N s → 2 * (r + k) < positions G → 1 ≤ k → (g : Consistent (L G) (heap_of G s) i n (pointers (variables ext s 0 (r + k)))) → n ≤ N
      → Attempts words (store_some G ext r k) s (((count : ℕ) → ReachableCount (block_fields G.fields s.state.mem) (pointers (variables ext s 0 (r + k))) count → count + length (some_sizes G k) < N) → n < N → ⊥)
      (λ u. ObjectStored G ext (heap_of G s) s r k u × Within G N (u.state.reg 3))
  store_attempts {N} {n} {i} s r k en f h g le =
      let left : ℕ = k - G.fields in
      let v : ℕ = r + left in
      let c : ℕ = k - left in
      let blocks : ℕ = chunks (G.fields - 1) left in
      let rc = reachable_counted g in
      let j = heap_ok_lem G g.invariant in
      let ln : j.0 < N = omega (arith, j.1) in
      let lb = location_fits G (2 * v) (omega arith) in
      let vc : r + k ≡ v + c = omega arith in
      let kc : k ≡ left + c = omega arith in
      let split : variables ext s 0 (r + k) ≡ variables ext s 0 v ++ variables ext s v c = ap (variables ext s 0) vc ∙ variables_append ext s 0 v c ∙ ap (λ (x : ℕ). variables ext s 0 v ++ variables ext s x c) (zero-add v) in
      let fill : Does words (store_values G ext v c G.fields) s (λ u. BlockWritten G (s.state.reg 2) s.state.mem (variables ext s v c) u.state.mem × Keeps (λ x. x ≢ 1) s u)
      = weaken (λ u x. (filled_last en.shape ext s v c j.0 u.state.mem (omega arith) j.2 x.0, x.1)) (store_values_lem words ext s v c G.fields j.0 en j.2 ln (omega arith) (omega arith) (omega arith)) in
      attempt_regroup (attempt_then (attempt_why (λ o room lt. o lt) (store_block words (pointers (variables ext s 0 v)) s (location (2 * v)) (variables ext s v c) en le (omega (arith, variables_pointers ext s 0 v)) lb.0 lb.1 g
      (λ b nz. omega (arith, ap (λ (x : List Cell). occ b (pointers x)) split, occ_pointers b (variables ext s 0 v) (variables ext s v c))) fill)) (λ u x.
      let agree : (a y : ℕ) → a + y ≤ v → variables ext u a y ≡ variables ext s a y
      = λ a y e. variables_kept ext s u a y (λ p b d. let z = location_grows p (2 * v) (omega arith) in (omega (arith, z.0), omega (arith, z.1))) x.5 in
      let joined : variables ext u r left ++ concat (variables ext s v c ∷ []) ≡ variables ext s r k
      = rw (agree r left (omega arith)) (ap (λ (q : List Cell). variables ext s r left ++ q) (append-nil (variables ext s v c)) ∙ sym (variables_append ext s r left c) ∙ ap (variables ext s r) (sym kc)) in
      let shaped : other_sizes (G.fields - 1) blocks left (lengths (variables ext s v c ∷ [])) ≡ some_sizes G k = ap (λ (q : ℕ). other_sizes (G.fields - 1) blocks left (q ∷ [])) (variables_length ext s v c) in
      attempt_weaken (λ t y. (stored_whole G ext s u t y.0 (keeps_sub (λ a z. (z.0, below (2 * r) (2 * v) a (omega arith) z.1)) x.5) joined shaped, y.1))
      (attempt_why (λ o room lt. o (room rc.0 rc.1) lt) (others_does G words ext (heap_of G s) (pointers (variables ext s 0 (r + k))) g (length (some_sizes G k)) rc.1 le blocks left (chunks_chunked (G.fields - 1) left (omega (arith, en.shape.some))) u (variables ext s v c) [] r (omega (arith, other_sizes_length (G.fields - 1) blocks left (c ∷ []))) (omega arith) (placed_keeps (omega (arith, lb.0)) x.5 en) (sym x.3, x.0, x.1, x.2)
      (λ b. rw (agree 0 v (omega arith)) (omega (arith, ap (λ (q : List Cell). occ b (pointers q)) split, occ_pointers b (variables ext s 0 v) (variables ext s v c), occ_pointers b (variables ext s v c) []))) x.4))))
