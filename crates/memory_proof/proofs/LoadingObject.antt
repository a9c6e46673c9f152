-- All blocks of an object loaded, in either mode.
use mathlib.Core.Bool.{Bool, true, false, not, cond}
use mathlib.Core.List.{List, [], ◌∷◌, ◌++◌, append-nil}
use mathlib.Core.Path.{◌≡◌, refl, sym, ◌∙◌, ap, subst}
use Prim.Native.Nat.{ℕ, zero, suc, ◌+◌, ◌-◌, ◌*◌, ◌≤◌, ◌<◌}
use native.Mathlib.Omega.{arith}
use lib.Dec.{ltb}
use lib.ListN.{length}
use borrow.Author.Tests.{lt-ltb}
use Rattle.records.proofs.Conditions.{never, both_ways}
use Rattle.layout.specs.declared.config.Shape.{Shape}
use Rattle.layout.specs.Config.{positions}
use Rattle.layout.specs.Positions.{location}
use Rattle.machine_step.specs.Step.{Config}
use Rattle.memory.specs.Objects.{chunks, load_block, freed, load_others, load_some, other_sizes, some_sizes}
use Rattle.heap.specs.Blocks.{Cell, pointers, Memory}
use Rattle.heap.specs.Counting.{occ}
use Rattle.heap.proofs.CountingLemmas.{occ_pointers}
use Rattle.heap.specs.Operations.{push_linear, ReleaseObject}
use Rattle.heap.specs.Values.{concat, lengths}
use Rattle.heap.proofs.WordLemmas.{fields_at, fields_all}
use Rattle.heap.specs.Words.{headers, cells_from, block_fields}
use Rattle.layout_proof.specs.Held.{held, Keeps, Placed}
use Rattle.layout_proof.proofs.Operands.{block_address}
use Rattle.layout_proof.proofs.HeldLemmas.{keeps_refl, keeps_trans, keeps_sub, keeps_register, location_free}
use Rattle.layout_proof.proofs.Runs.{Does, one, then, so}
use Rattle.memory_proof.proofs.Loading.{MayShare, as_variables, shown_by}
use Rattle.memory_proof.proofs.LoadingBlock.{AfterBlock, released, counted, Aside, BlockLoaded, restored, load_block_lem}
use Rattle.memory_proof.proofs.LoadingOthers.{Lies, lies_last, released_end, CountsMore, BlocksGone, all_released, all_counted, Under, as_variables_append, concat_snoc, restored_mem, restored_heap, restored_free, under_aside, before_aside, LoadedSoFar, load_other}
use Rattle.memory_proof.proofs.Shown.{heap_of, SameFields, head_same, head_off, head_fields, memory_is}
use Rattle.memory_proof.proofs.Sizes.{Chunked, chunks_chunked, chunked_next}
use Rattle.memory_proof.proofs.Variables.{variables, variables_append, variables_kept}

-- what a whole load does to the heap: its blocks are released, or the pointers ps counted
pub data ObjectGone (M : Memory) (p : ℕ) (ch : List (List Cell)) (ps : List ℕ) : Bool → Memory → Type 0 where
  object_released : {M' : Memory} → ReleaseObject M p ch M' → ObjectGone M p ch ps false M'
  object_counted : {M' : Memory} → CountsMore ps M M' → ObjectGone M p ch ps true M'

restored_none : (c : Bool) (u : Config) → restored (cond c false false) u ≡ u
restored_none c u = both_ways (λ f. restored f u ≡ u) c refl refl

gone_none : (sh : Bool) (M : Memory) (p q : ℕ) → p ≡ q → BlocksGone M p [] [] sh M q
gone_none false M p q e = all_released {M' = M} {q = q} (refl, e)
gone_none true M p q e = all_counted {M' = M} {q = q} (record { fields = refl; linear_head = refl; lazy_head = refl; header = λ b nz. omega arith })

-- whether register 4 is borrowed after the blocks of n variables from e on, by the variable that the last of them began with
freed_after : (G : Shape) (ext : ℕ → Bool) (e n : ℕ) → 1 ≤ n → cond (ltb (location (2 * (e + (n - (G.fields - 1))))) 16) false true ≡ freed G ext e n
freed_after G ext e n h = rw (lt-ltb 0 n h) (not_is (ltb (location (2 * (e + (n - (G.fields - 1))))) 16))
  where
    not_is : (b : Bool) → cond b false true ≡ not b
    not_is true = refl
    not_is false = refl

module _ {G : Shape} (words : ℕ → ℕ) (ext : ℕ → Bool) where
  module _ {N : ℕ} (sh : Bool) (K e p : ℕ) (ch : List (List Cell)) (s : Config) (en : Placed G N s) (is : held s (location (2 * e)) ≡ p) (lays : Lies G N (block_fields G.fields s.state.mem) p ch) (pts : MayShare G sh N K s.state.mem (pointers (as_variables ext e (concat ch)))) where
    nothing_yet : (ls : List ℕ) → lengths ch ≡ ls → LoadedSoFar G ext sh N K e 0 p ch ls s false s
    nothing_yet ls sz =
        let z : e + 0 ≡ e = omega arith in
        let k : K - 0 ≡ K = omega arith in
        let q : held s (location (2 * (e + 0))) ≡ p = ap (λ (x : ℕ). held s (location (2 * x))) z ∙ is in
        let l₁ : Lies G N (block_fields G.fields s.state.mem) (held s (location (2 * (e + 0)))) ch = rw q lays in
        let p₁ : MayShare G sh N (K - 0) s.state.mem (pointers (as_variables ext (e + 0) (concat ch))) = rw (z, k) pts in
        record { pre = []; left = ch; whole = refl; shape = sz; count = refl; placed = en; lies = l₁; vals = refl; gone = gone_none sh (heap_of G s) p (held s (location (2 * (e + 0)))) (sym q); may_share = p₁; keeps = keeps_refl; high = never }

    others_does : (m n x : ℕ) (xs : List ℕ) → Chunked (G.fields - 1) m n → 2 * (e + n) < positions G → n ≤ K → lengths ch ≡ other_sizes (G.fields - 1) m n (x ∷ xs)
        → Does words (load_others G ext sh m e n) s (λ r. LoadedSoFar G ext sh N K e n p ch (x ∷ xs) s (freed G ext e n) r)
    others_does zero zero x xs c h g sz = one refl (nothing_yet (x ∷ xs) sz)
    others_does zero (suc n) x xs c h g sz = absurd (omega (arith, c.enough))
    others_does (suc m) n x xs c h g sz =
        let a : ℕ = n - (G.fields - 1) in
        let b : ℕ = n - a in
        let i : a + b ≡ n = omega arith in
        then (others_does m a b (x ∷ xs) (chunked_next c).0 (omega arith) (omega arith) sz) (λ r w.
        so (load_other words ext s r b (omega (arith, (chunked_next c).1, en.shape.some)) (omega arith) (omega arith) (omega arith) w) (λ u y.
        subst (λ (f : Bool). LoadedSoFar G ext sh N K e n p ch (x ∷ xs) s f u) (freed_after G ext e n (chunked_next c).1)
        (subst (λ (z : ℕ). LoadedSoFar G ext sh N K e z p ch (x ∷ xs) s (cond (ltb (location (2 * (e + a))) 16) false true) u) i y)))

    -- the last block
    last_does : (k kk : ℕ) (fr : Bool) (r : Config) → 1 ≤ kk → kk ≤ G.fields → 2 * (e + k + kk) < positions G → k + kk ≤ K → LoadedSoFar G ext sh N K e k p ch (kk ∷ []) s fr r
        → Does words (load_block G ext sh false fr (e + k) kk) r (λ u. (variables ext u e (k + kk) ≡ as_variables ext e (concat ch)) × ObjectGone (heap_of G s) p ch (pointers (as_variables ext e (concat ch))) sh (heap_of G u) × Keeps (Under e) s u)
    last_does k kk fr r k1 k3 vk k_k w = by w.left w.whole w.shape w.lies w.may_share
      where
        finish : {qs rs : List ℕ} {sh : Bool} (u : Config) (j q : ℕ) (d : List Cell) (pre : List (List Cell)) (ps : List ℕ) → ((b : ℕ) → occ b rs ≡ occ b ps + occ b qs) → q ≡ block_address G j → u.state.reg 3 ≡ r.state.reg 3
            → BlocksGone (heap_of G s) p pre ps sh (heap_of G r) q → AfterBlock G j qs r.state.mem (r.state.reg 2) sh u.state.mem (u.state.reg 2) → ObjectGone (heap_of G s) p (pre ++ (d ∷ [])) rs sh (heap_of G u)
        finish u j q d pre ps occs iq three (all_released w) (released a z) =
            let wd : SameFields G r.state.mem u.state.mem = λ x y b c. rw a (head_fields G r.state.mem j (r.state.reg 2) x y b c) in
            let t : ReleaseObject (heap_of G s) p (pre ++ (d ∷ [])) (push_linear (heap_of G r) q (headers G.fields u.state.mem))
            = released_end pre (heap_of G s) p (heap_of G r) q (headers G.fields u.state.mem) d w (rw (a, iq) (head_same G r.state.mem j (r.state.reg 2))) (λ b n. rw a (head_off G r.state.mem j (r.state.reg 2) b (λ x. n (x ∙ sym iq)))) in
            let t₂ : ReleaseObject (heap_of G s) p (pre ++ (d ∷ [])) (heap_of G u) = rw (← (memory_is (block_fields G.fields r.state.mem) (block_fields G.fields u.state.mem) (headers G.fields u.state.mem) q (u.state.reg 2) (r.state.reg 3) (u.state.reg 3) (fields_all G.fields r.state.mem u.state.mem wd) (z ∙ sym iq) three)) t in
            object_released t₂
        finish u j q d pre ps occs iq three (all_counted t) (counted c z) = object_counted {M' = heap_of G u} (record { fields = fields_all G.fields r.state.mem u.state.mem c.fields ∙ t.fields; linear_head = z ∙ t.linear_head; lazy_head = three ∙ t.lazy_head; header = λ b nz. omega (arith, c.counts b nz, t.header b nz, occs b) })

        by : (left : List (List Cell)) → ch ≡ w.pre ++ left → lengths left ≡ kk ∷ [] → Lies G N (block_fields G.fields r.state.mem) (held (restored fr r) (location (2 * (e + k)))) left → MayShare G sh N (K - k) r.state.mem (pointers (as_variables ext (e + k) (concat left)))
            → Does words (load_block G ext sh false fr (e + k) kk) r (λ u. (variables ext u e (k + kk) ≡ as_variables ext e (concat ch)) × ObjectGone (heap_of G s) p ch (pointers (as_variables ext e (concat ch))) sh (heap_of G u) × Keeps (Under e) s u)
        by [] a b l f = let z : ◌≡◌ {A = ℕ} 0 1 = cc in absurd (omega arith)
        by (c ∷ d ∷ ds) a b l f = let z : ◌≡◌ {A = ℕ} 0 1 = cc in absurd (omega arith)
        by (c ∷ []) a b l f =
            let j : ℕ = l.0 in
            let q : ℕ = held (restored fr r) (location (2 * (e + k))) in
            let lc : length c ≡ kk = cc in
            let at : cells_from G.fields r.state.mem j 0 G.fields ≡ l.3 ++ c = sym (fields_at G.fields r.state.mem j) ∙ ap (block_fields G.fields r.state.mem) (sym l.2) ∙ l.4 in
            let o : cells_from G.fields r.state.mem j (G.fields - kk) kk ≡ c = lies_last G r.state.mem j kk c l.3 lc k3 at in
            let sc : shown_by G ext (e + k) kk r.state.mem j G.fields ≡ as_variables ext (e + k) c = ap (as_variables ext (e + k)) o in
            let f₂ : MayShare G sh N (K - k) r.state.mem (pointers (shown_by G ext (e + k) kk r.state.mem j G.fields)) = rw (sc, ← (append-nil c)) f in
            so (load_block_lem words ext sh false (e + k) kk j (K - k) l.1 k3 k1 vk (omega arith) fr r w.high w.placed l.2 f₂) (λ u x.
            let S : Config = restored fr r in
            let vo : restored (cond (ltb (location (2 * (e + k))) 16) false false) u ≡ u = restored_none (ltb (location (2 * (e + k))) 16) u in
            let x₁ : BlockLoaded G ext (Aside (e + k) kk) sh false (e + k) kk j S u = subst (λ (z : Config). BlockLoaded G ext (Aside (e + k) kk) sh false (e + k) kk j S z) vo x in
            let w₁ : AfterBlock G j (pointers (as_variables ext (e + k) c)) r.state.mem (r.state.reg 2) sh u.state.mem (u.state.reg 2) = rw (restored_mem fr r, restored_heap fr r, sc) at x₁.went in
            let sv : shown_by G ext (e + k) kk S.state.mem j G.fields ≡ as_variables ext (e + k) c = ap (λ (z : ℕ → ℕ). shown_by G ext (e + k) kk z j G.fields) (restored_mem fr r) ∙ sc in
            let cs : as_variables ext e (concat (w.pre ++ (c ∷ []))) ≡ as_variables ext e (concat w.pre) ++ as_variables ext (e + k) c
            = ap (as_variables ext e) (concat_snoc w.pre c) ∙ as_variables_append ext e (concat w.pre) c ∙ ap (λ (z : ℕ). as_variables ext e (concat w.pre) ++ as_variables ext (e + z) c) w.count in
            let vs : variables ext u e k ≡ variables ext S e k = variables_kept ext S u e k (λ z a b. before_aside (e + k) kk z b) x₁.keeps in
            let three : u.state.reg 3 ≡ r.state.reg 3 = keeps_register x₁.keeps 3 (omega arith) (under_aside e (e + k) kk 3 (omega arith) (omega arith, omega arith, omega arith, omega (arith, (location_free (2 * e)).0))) ∙ restored_free fr r in
            let en₁ : ObjectGone (heap_of G s) p (w.pre ++ (c ∷ [])) (pointers (as_variables ext e (concat (w.pre ++ (c ∷ []))))) sh (heap_of G u)
            = finish u j q c w.pre (pointers (as_variables ext e (concat w.pre))) (λ b. ap (λ (z : List Cell). occ b (pointers z)) cs ∙ occ_pointers b (as_variables ext e (concat w.pre)) (as_variables ext (e + k) c)) l.2 three w.gone w₁ in (
              variables_append ext u e k kk ∙ rw (vs, w.vals, x₁.vals, sv) (sym cs ∙ ap (λ (z : List (List Cell)). as_variables ext e (concat z)) (sym a)),
              rw a en₁,
              keeps_trans w.keeps (keeps_sub (λ z y. under_aside e (e + k) kk z (omega arith) y) x₁.keeps),
            ))

    pub some_does : (n : ℕ) → 1 ≤ n → 2 * (e + n) < positions G → n ≤ K → lengths ch ≡ some_sizes G n
        → Does words (load_some G ext sh e n) s (λ u. (variables ext u e n ≡ as_variables ext e (concat ch)) × ObjectGone (heap_of G s) p ch (pointers (as_variables ext e (concat ch))) sh (heap_of G u) × Keeps (Under e) s u)
    some_does n n1 en133 n_k sz =
        let a : ℕ = n - G.fields in
        let b : ℕ = n - a in
        let t : a + b ≡ n = omega arith in
        then (others_does (chunks (G.fields - 1) a) a b [] (chunks_chunked (G.fields - 1) a (omega (arith, en.shape.some))) (omega arith) (omega arith) sz) (λ r w.
        so (last_does a b (freed G ext e a) r (omega (arith, en.shape.some)) (omega arith) (omega arith) (omega arith) w) (λ u x. (ap (variables ext u e) (sym t) ∙ x.0, x.1, x.2)))
