-- A store of any number of values, and the tag after it, performs the store order and keeps the variables before it.
use mathlib.Core.Bool.{Bool, true, false, cond}
use mathlib.Core.List.{List, [], ◌∷◌, ◌++◌}
use mathlib.Core.Logic.{◌≢◌}
use mathlib.Core.Path.{◌≡◌, refl, sym, ◌∙◌, ap}
use Prim.Native.Nat.{ℕ, zero, suc, ◌+◌, ◌*◌, ◌≤◌, ◌<◌}
use native.Mathlib.Nat.{zero-add}
use native.Mathlib.Omega.{arith}
use lib.Dec.{ltb}
use lib.ListN.{length}
use borrow.Author.Tests.{ne_eqb, ltb-true, ltb-false}
use Rattle.records.specs.declared.code.Code.TheVariants.{MOVI, MOVIM}
use Rattle.trees.specs.Tree.{Tree, leaf, seq}
use Rattle.layout.specs.declared.config.Shape.{Shape}
use Rattle.layout.specs.Config.{operands, positions, stack_offset}
use Rattle.layout.specs.Positions.{location}
use Rattle.machine_step.specs.Step.{Config}
use Rattle.machine_step.specs.View.{upd}
use Rattle.memory.specs.Objects.{store_some, store_object, object_sizes}
use Rattle.heap.specs.Blocks.{Cell, cell, pointers, Memory}
use Rattle.heap.proofs.Invariant.{Represents}
use Rattle.heap.specs.Orders.{store, Performs, stores_none, stores_some}
use Rattle.heap.specs.Reachability.{ReachableCount}
use Rattle.heap.specs.Values.{Values, concat}
use Rattle.heap.specs.Words.{block_fields}
use Rattle.layout_proof.specs.Held.{held, Keeps, Placed}
use Rattle.layout_proof.proofs.HeldLemmas.{location_free, upd_other, register_same, spill_same, keeps_refl, keeps_trans, keeps_sub, keeps_put, keeps_spill, in_frame, placed_keeps, location_grows, location_fits}
use Rattle.layout_proof.proofs.RecordLemmas.{register_MOVI, spill_MOVIM}
use Rattle.layout_proof.proofs.Runs.{Does, one, so}
use Rattle.memory_proof.proofs.Acquiring.{Low, Within, free_ok}
use Rattle.memory_proof.proofs.Attempting.{Attempts, does, attempt_then, attempt_weaken, surely}
use Rattle.memory_proof.proofs.Shown.{L, heap_of, memory_is}
use Rattle.memory_proof.proofs.StoringObject.{ObjectStored, store_attempts}
use Rattle.memory_proof.proofs.Variables.{variable, variables, variables_snoc, variables_append, variables_length, variables_kept, variables_kinds}

-- what a store of n variables from r on leaves: with every tag the order is performed, and what is below r stays
abbrev pub StoredFrom : Shape → (ℕ → Bool) → Config → ℕ → ℕ → Config → Type 0
StoredFrom G ext s r n u =
    ((tag : ℕ) → Performs (object_sizes G) (L G) (heap_of G s) (store n tag) (variables ext s 0 (r + n)) (heap_of G u) (variables ext s 0 r ++ (cell (held u (location (2 * r))) tag ∷ [])))
    × Keeps (λ x. Low x × (x < location (2 * r))) s u

-- the tag written, the variables are those before and the new one
pub tagged : (ext ext' : ℕ → Bool) (s u z : Config) (r tag : ℕ) → ((x : ℕ) → x < r → ext' x ≡ ext x) → ext' r ≡ false → Keeps (λ x. Low x × (x < location (2 * r))) s u
    → held z (location (2 * r + 1)) ≡ tag → Keeps (λ x. (x ≢ 1) × (x ≢ location (2 * r + 1))) u z
    → variables ext' z 0 (suc r) ≡ variables ext s 0 r ++ (cell (held u (location (2 * r))) tag ∷ [])
tagged ext ext' s u z r tag agree linked ks t kz =
    let f₀ = location_free (2 * r) in
    let g = location_grows (2 * r) (2 * r + 1) (omega arith) in
    let v₀ : held z (location (2 * r)) ≡ held u (location (2 * r)) = kz.kept (location (2 * r)) (omega (arith, f₀.0), omega (arith, g.1)) in
    let front : variables ext' z 0 r ≡ variables ext s 0 r
    = variables_kinds ext ext' z 0 r (λ y a b. agree y (omega arith))
    ∙ variables_kept ext u z 0 r (λ p a b. let y = location_grows p (2 * r + 1) (omega arith) in (omega (arith, y.0), omega (arith, y.1))) kz
    ∙ variables_kept ext s u 0 r (λ p a b. let y = location_grows p (2 * r) (omega arith) in (omega (arith, y.0), y.1)) ks in
    let last : variable ext' z r ≡ cell (held u (location (2 * r))) tag = rw (linked, v₀, t) in
    variables_snoc ext' z 0 r ∙ rw (front, zero-add, last)

module _ {G : Shape} (words : ℕ → ℕ) where
  -- zero into the pointer's place: an object of no values
  zero_does : {N : ℕ} (s : Config) (l : ℕ) → Placed G N s → 4 ≤ l → l < operands G
      → Does words (cond (ltb l 16) (leaf (MOVI l 0) refl) (leaf (MOVIM 0 (stack_offset G l) 0) refl)) s (λ r. (held r l ≡ 0) × (heap_of G r ≡ heap_of G s) × Keeps (λ y. y ≢ l) s r)
  zero_does {N} s l v a b = by (ltb l 16) refl
    where
      by : (c : Bool) → ltb l 16 ≡ c → Does words (cond c (leaf (MOVI l 0) refl) (leaf (MOVIM 0 (stack_offset G l) 0) refl)) s (λ r. (held r l ≡ 0) × (heap_of G r ≡ heap_of G s) × Keeps (λ y. y ≢ l) s r)
      by true e =
          let two : upd s.state.reg l 0 2 ≡ s.state.reg 2 = upd_other s.state.reg l 0 2 (omega arith) in
          let three : upd s.state.reg l 0 3 ≡ s.state.reg 3 = upd_other s.state.reg l 0 3 (omega arith) in
          one (register_MOVI words s l 0) (register_same s.state.reg s.state.stk l 0 (ltb-true l 16 e), memory_is _ _ _ _ _ _ _ refl (sym two) (sym three), keeps_put l 0 (λ y d. d) keeps_refl)
      by false e =
          let h : 16 ≤ l = ltb-false l 16 e in
          one (spill_MOVIM words s v l h b 0) (spill_same s.state.reg s.state.stk l 0 h, refl, keeps_spill l 0 h (in_frame l v b) (λ y d. d) keeps_refl)

  module _ {N : ℕ} (ext : ℕ → Bool) (s : Config) (r : ℕ) (en : Placed G N s) where
    pub store_none_lem : 2 * r < positions G → Does words (store_object G ext r 0) s (λ u. StoredFrom G ext s r 0 u × (heap_of G u ≡ heap_of G s) × (held u (location (2 * r)) ≡ 0))
    store_none_lem h =
        let f = location_fits G (2 * r) (omega arith) in
        so (zero_does s (location (2 * r)) en f.0 f.1) (λ u x.
        let z : r + 0 ≡ r = omega arith in
        (((λ tag. rw (x.0, x.1, z) (stores_none (variables ext s 0 r) tag)), keeps_sub (λ l y. omega (arith, y.1)) x.2), x.1, x.0))

    -- the room that a store wants: for the blocks reachable before it and those that it acquires
    abbrev Roomy : ℕ → Type 0
    Roomy n = (count : ℕ) → ReachableCount (block_fields G.fields s.state.mem) (pointers (variables ext s 0 (r + n))) count → count + length (object_sizes G n) < N

    store_some_lem : {m : ℕ} {values : Values} (k : ℕ) → 2 * (r + suc k) < positions G → m ≤ N
        → Represents (object_sizes G) (L G) (heap_of G s) m (variables ext s 0 (r + suc k)) values
        → Attempts words (store_some G ext r (suc k)) s (Roomy (suc k) → m < N → ⊥) (λ u. StoredFrom G ext s r (suc k) u × Within G N (u.state.reg 3))
    store_some_lem k h le rep =
        attempt_weaken (λ u x. (
          let w : ObjectStored G ext (heap_of G s) s r (suc k) u = x.0 in (
            (λ tag.
                let vs : variables ext s 0 (r + suc k) ≡ variables ext s 0 r ++ concat (w.head ∷ w.others)
                = variables_append ext s 0 r (suc k) ∙ ap (λ (x : ℕ). variables ext s 0 r ++ variables ext s x (suc k)) (zero-add r) ∙ ap (λ (x : List Cell). variables ext s 0 r ++ x) (sym w.cells) in
                let n : length (concat (w.head ∷ w.others)) ≡ suc k = ap length w.cells ∙ variables_length ext s r (suc k) in
                let p : Performs (object_sizes G) (L G) (heap_of G s) (store (length (concat (w.head ∷ w.others))) tag) (variables ext s 0 r ++ concat (w.head ∷ w.others)) (heap_of G u) (variables ext s 0 r ++ (cell (held u (location (2 * r))) tag ∷ []))
                = stores_some (variables ext s 0 r) w.head w.others (heap_of G u) (held u (location (2 * r))) tag (w.shapes ∙ ap (object_sizes G) (sym n)) w.did in
                rw vs (rw n at p)),
            w.keeps,
          ),
          x.1,
        ))
        (store_attempts words ext s r (suc k) en h (omega arith) rep.consistent le)

    -- n variables from r on stored, whatever registers and spills they have
    pub store_tries : {m : ℕ} {values : Values} (n : ℕ) → 2 * (r + n) < positions G → m ≤ N
        → Represents (object_sizes G) (L G) (heap_of G s) m (variables ext s 0 (r + n)) values
        → Attempts words (store_object G ext r n) s (Roomy n → m < N → ⊥) (λ u. StoredFrom G ext s r n u × Within G N (u.state.reg 3))
    store_tries zero h le rep =
        let f = free_ok G rep.consistent.lazy rep.consistent.invariant in
        does (so (store_none_lem (omega arith)) (λ u x. (x.0, (f.0, omega (arith, f.1), ap (λ (M : Memory). M.lazy_head) x.1 ∙ f.2))))
    store_tries (suc k) h le rep = rw (ne_eqb (suc k) 0 (omega arith)) (store_some_lem k h le rep)

    pub store_performs : {m : ℕ} {values : Values} (n : ℕ) → 2 * (r + n) < positions G
        → ((count : ℕ) → ReachableCount (block_fields G.fields s.state.mem) (pointers (variables ext s 0 (r + n))) count → count + length (object_sizes G n) < N) → m < N
        → Represents (object_sizes G) (L G) (heap_of G s) m (variables ext s 0 (r + n)) values → Does words (store_object G ext r n) s (StoredFrom G ext s r n)
    store_performs n h room lt rep = so (surely (λ o. o room lt) (store_tries n h (omega arith) rep)) (λ u x. x.0)

  -- the store order's code: the variables stored, and then a tree that writes the tag
  pub store_order_tries : {N m : ℕ} {values : Values} (ext ext' : ℕ → Bool) (s : Config) (r n tag : ℕ) (t : Tree) → Placed G N s → 2 * (r + n) < positions G → 2 * r + 2 < positions G → ((x : ℕ) → x < r → ext' x ≡ ext x) → ext' r ≡ false
      → ((u : Config) → Placed G N u → Does words t u (λ z. (held z (location (2 * r + 1)) ≡ tag) × (heap_of G z ≡ heap_of G u) × Keeps (λ x. (x ≢ 1) × (x ≢ location (2 * r + 1))) u z))
      → m ≤ N → Represents (object_sizes G) (L G) (heap_of G s) m (variables ext s 0 (r + n)) values
      → Attempts words (seq (store_object G ext r n) t) s
      (((count : ℕ) → ReachableCount (block_fields G.fields s.state.mem) (pointers (variables ext s 0 (r + n))) count → count + length (object_sizes G n) < N) → m < N → ⊥)
      (λ z. Performs (object_sizes G) (L G) (heap_of G s) (store n tag) (variables ext s 0 (r + n)) (heap_of G z) (variables ext' z 0 (suc r)) × Within G N (heap_of G z).lazy_head × Keeps (λ x. Low x × (x < location (2 * r))) s z)
  store_order_tries {N} ext ext' s r n tag t en h r1 agree linked writes le rep =
      attempt_then (store_tries ext s r en n h le rep) (λ u w.
      does (so (writes u (placed_keeps (omega (arith, (location_fits G (2 * r) (omega arith)).0)) w.0.1 en)) (λ z x. (
        rw (x.1, tagged ext ext' s u z r tag agree linked w.0.1 x.0 x.2) (w.0.0 tag),
        (w.1.0, w.1.1, ap (λ (M : Memory). M.lazy_head) x.1 ∙ w.1.2),
        keeps_trans w.0.1 (keeps_sub (λ l y. (omega arith, omega (arith, y.1, (location_grows (2 * r) (2 * r + 1) (omega arith)).1))) x.2),
      ))))
