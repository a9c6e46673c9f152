-- A load of one value or more: the object's blocks are released where no other pointer names it, else its count falls by one and its pointers are shared.
use mathlib.Core.Bool.{Bool, true, false, cond}
use mathlib.Core.List.{List}
use mathlib.Core.Logic.{◌≢◌}
use mathlib.Core.Path.{◌≡◌, refl, sym, ◌∙◌, ap}
use Prim.Native.Nat.{ℕ, suc, ◌+◌, ◌*◌, ◌≤◌, ◌<◌}
use native.Mathlib.Decide.{ℕ_discrete}
use native.Mathlib.Omega.{arith}
use lib.Dec.{ltb}
use borrow.Author.Tests.{eq-eqb, ne_eqb, ltb-true, ltb-false}
use Rattle.records.specs.declared.code.Code.TheVariants.{ADDIM, MOVL, CMPIM}
use Rattle.records.proofs.Conditions.{never}
use Rattle.word.specs.Words.{sum}
use Rattle.trees.specs.Tree.{nop, leaf, seq, if_zero}
use Rattle.layout.specs.declared.config.Shape.{Shape}
use Rattle.layout.specs.Config.{operands, positions, TEMP, stack_offset}
use Rattle.layout.specs.Positions.{location}
use Rattle.machine_step.specs.Step.{Config, dropped}
use Rattle.machine_step.specs.View.{upd}
use Rattle.memory.specs.Objects.{load_some, load_object, some_sizes}
use Rattle.heap.specs.Blocks.{Cell, pointers, Memory}
use Rattle.heap.specs.Counting.{same, occ}
use Rattle.heap.proofs.CountingLemmas.{same_self, same_other, split}
use Rattle.heap.specs.Operations.{with_headers, ReleaseObject}
use Rattle.heap.specs.Values.{concat, lengths}
use Rattle.heap.proofs.WordLemmas.{word_apart, header_at}
use Rattle.heap.specs.Words.{word_at, headers, block_fields}
use Rattle.layout_proof.specs.Held.{held, Keeps, Placed}
use Rattle.layout_proof.proofs.Operands.{with_register, with_heap, block_address}
use Rattle.layout_proof.proofs.HeldLemmas.{upd_same, upd_other, held_register, keeps_refl, keeps_trans, keeps_sub, keeps_put, placed_keeps, location_fits}
use Rattle.layout_proof.proofs.RecordLemmas.{block_ADDIM, block_compared, spill_MOVL}
use Rattle.layout_proof.proofs.Runs.{Does, go, so, if_yes, if_no}
use Rattle.memory_proof.proofs.Loading.{MayShare, as_variables}
use Rattle.memory_proof.proofs.LoadingObject.{ObjectGone, object_released, object_counted, some_does}
use Rattle.memory_proof.proofs.LoadingOthers.{Lies, Under}
use Rattle.memory_proof.proofs.Shown.{heap_of, head_same, head_off, head_cells, minus_one, memory_is}
use Rattle.memory_proof.proofs.Variables.{variables}

-- what a load leaves of the heap: the object's blocks are on the linear list, or its count is one less and its pointers' are more
pub data ObjectTaken (M : Memory) (p : ℕ) (ch : List (List Cell)) (ps : List ℕ) (M' : Memory) : Type 0 where
  was_last : M.header p ≡ 0 → ReleaseObject M p ch M' → ObjectTaken M p ch ps M'
  was_shared : M.header p ≢ 0 → M' ≡ with_headers M M'.header → ((b : ℕ) → b ≢ 0 → M'.header b + same b p ≡ M.header b + occ b ps) → ObjectTaken M p ch ps M'

headers_changed : (M M' : Memory) → M'.fields ≡ M.fields → M'.linear_head ≡ M.linear_head → M'.lazy_head ≡ M.lazy_head → M' ≡ with_headers M M'.header
headers_changed M M' a b c = memory_is M'.fields M.fields M'.header M'.linear_head M.linear_head M'.lazy_head M.lazy_head (sym a) (sym b) (sym c)

module _ {G : Shape} (words : ℕ → ℕ) (ext : ℕ → Bool) where
  module _ {N : ℕ} (s : Config) (e n p j : ℕ) (ch : List (List Cell)) (en : Placed G N s) (is : held s (location (2 * e)) ≡ p) (pj : p ≡ block_address G j) (lt : j < N) (small : s.state.mem (word_at G.fields j 0) < 18446744073709551616)
      (lays : Lies G N (block_fields G.fields s.state.mem) p ch) (sz : lengths ch ≡ some_sizes G n) (pts : MayShare G true N n s.state.mem (pointers (as_variables ext e (concat ch)))) (n1 : 1 ≤ n) (en133 : 2 * (e + n) < positions G) where
    abbrev Post : Config → Type 0
    Post u = (variables ext u e n ≡ as_variables ext e (concat ch)) × ObjectTaken (heap_of G s) p ch (pointers (as_variables ext e (concat ch))) (heap_of G u) × Keeps (Under e) s u

    fits : (4 ≤ location (2 * e)) × (location (2 * e) < operands G) × (location (2 * e) ≢ 16)
    fits = location_fits G (2 * e) (omega arith)

    -- both branches, where register b has the pointer and r is s but for TEMP
    branches : (r : Config) (b : ℕ) → r.state.mem ≡ s.state.mem → r.state.reg 2 ≡ s.state.reg 2 → r.state.reg 3 ≡ s.state.reg 3 → Keeps (λ x. x ≢ 1) s r → r.state.reg b ≡ block_address G j
        → Does words (if_zero (CMPIM b 0 0) refl (load_some G ext false e n) (seq (leaf (ADDIM b 0 18446744073709551615) refl) (load_some G ext true e n))) r Post
    branches r b em e2 e3 kr rb = by (ℕ_discrete (r.state.mem (word_at G.fields j 0)) 0)
      where
        er : Placed G N r
        er = placed_keeps (omega arith) kr en

        ir : held r (location (2 * e)) ≡ p
        ir = kr.kept (location (2 * e)) (omega (arith, fits.0)) ∙ is

        ku : Keeps (Under e) s r
        ku = keeps_sub (λ x y. y.0) kr

        mr : heap_of G s ≡ heap_of G r
        mr = rw (em, e2, e3)

        hp : headers G.fields s.state.mem p ≡ r.state.mem (word_at G.fields j 0)
        hp = rw (pj, em) (header_at G.fields s.state.mem j)

        by : Dec (r.state.mem (word_at G.fields j 0) ≡ 0) → Does words (if_zero (CMPIM b 0 0) refl (load_some G ext false e n) (seq (leaf (ADDIM b 0 18446744073709551615) refl) (load_some G ext true e n))) r Post
        by (yes z) =
            let l₁ : Lies G N (block_fields G.fields r.state.mem) p ch = rw em lays in
            if_yes (block_compared words r er b j 0 0 rb lt refl (omega arith) 0) (eq-eqb (r.state.mem (word_at G.fields j 0)) 0 z)
            (so (some_does words ext false n e p ch (dropped r) er ir l₁ (record { each = never }) n n1 en133 (omega arith) sz) (λ u x.
            (x.0, released_all u x.1, keeps_trans ku x.2)))
          where
            released_all : (u : Config) → ObjectGone (heap_of G r) p ch (pointers (as_variables ext e (concat ch))) false (heap_of G u) → ObjectTaken (heap_of G s) p ch (pointers (as_variables ext e (concat ch))) (heap_of G u)
            released_all u (object_released t) = was_last (hp ∙ z) (rw mr t)
        by (no z) =
            let y : ℕ = sum (r.state.mem (word_at G.fields j 0)) 18446744073709551615 in
            let r₁ : Config = dropped (with_heap (dropped r) (word_at G.fields j 0) y) in
            let sy : suc y ≡ r.state.mem (word_at G.fields j 0) = minus_one (r.state.mem (word_at G.fields j 0)) z (omega (arith, ap (λ (x : ℕ → ℕ). x (word_at G.fields j 0)) em)) in
            let m₁ : ℕ → ℕ = upd r.state.mem (word_at G.fields j 0) y in
            let l₁ : Lies G N (block_fields G.fields m₁) p ch = rw (head_cells G r.state.mem j y, em) lays in
            let p₁ : MayShare G true N n m₁ (pointers (as_variables ext e (concat ch))) = record { each = λ q x o nz. lower x o nz (r.state.mem (word_at G.fields j 0)) sy } in
            if_no (block_compared words r er b j 0 0 rb lt refl (omega arith) 0) (ne_eqb (r.state.mem (word_at G.fields j 0)) 0 z)
            (go (block_ADDIM words (dropped r) er b j 0 0 rb lt refl (omega arith) 18446744073709551615)
            (so (some_does words ext true n e p ch r₁ er ir l₁ p₁ n n1 en133 (omega arith) sz) (λ u x.
            (x.0, counted_all u sy x.1, keeps_trans ku x.2))))
          where
            lower : (q : ℕ) → occ q (pointers (as_variables ext e (concat ch))) ≢ 0 → q ≢ 0 → (c : ℕ) → suc (sum (r.state.mem (word_at G.fields j 0)) 18446744073709551615) ≡ r.state.mem (word_at G.fields j 0)
                → (i : ℕ) × (i < N) × (q ≡ block_address G i) × (upd r.state.mem (word_at G.fields j 0) (sum (r.state.mem (word_at G.fields j 0)) 18446744073709551615) (word_at G.fields i 0) + n < 18446744073709551616)
            lower q o nz c sy = let g = pts.each refl q o nz in (g.0, g.1, g.2, at g.0 g.3 (ℕ_discrete g.0 j))
              where
                at : (i : ℕ) → s.state.mem (word_at G.fields i 0) + n < 18446744073709551616 → Dec (i ≡ j) → upd r.state.mem (word_at G.fields j 0) (sum (r.state.mem (word_at G.fields j 0)) 18446744073709551615) (word_at G.fields i 0) + n < 18446744073709551616
                at i h (yes t) = rw t (omega (arith, upd_same r.state.mem (word_at G.fields j 0) (sum (r.state.mem (word_at G.fields j 0)) 18446744073709551615), ap (λ (x : ℕ → ℕ). x (word_at G.fields j 0)) em, ap (λ (x : ℕ). s.state.mem (word_at G.fields x 0)) t))
                at i h (no t) = omega (arith, upd_other r.state.mem (word_at G.fields j 0) (sum (r.state.mem (word_at G.fields j 0)) 18446744073709551615) (word_at G.fields i 0) (word_apart G.fields i j 0 0 (omega arith) (omega arith) (λ e f. t e)), ap (λ (x : ℕ → ℕ). x (word_at G.fields i 0)) em)

            counted_all : (u : Config) → suc (sum (r.state.mem (word_at G.fields j 0)) 18446744073709551615) ≡ r.state.mem (word_at G.fields j 0)
                → ObjectGone (heap_of G (with_heap r (word_at G.fields j 0) (sum (r.state.mem (word_at G.fields j 0)) 18446744073709551615))) p ch (pointers (as_variables ext e (concat ch))) true (heap_of G u) → ObjectTaken (heap_of G s) p ch (pointers (as_variables ext e (concat ch))) (heap_of G u)
            counted_all u sy (object_counted t) =
                let y : ℕ = sum (r.state.mem (word_at G.fields j 0)) 18446744073709551615 in
                was_shared (λ q. z (sym hp ∙ q)) (headers_changed (heap_of G s) (heap_of G u) (t.fields ∙ head_cells G r.state.mem j y ∙ ap (block_fields G.fields) em) (t.linear_head ∙ e2) (t.lazy_head ∙ e3))
                (split p
                (λ nz. omega (arith, t.header p nz, same_self p, hp, ap (headers G.fields (upd r.state.mem (word_at G.fields j 0) y)) pj, head_same G r.state.mem j y))
                (λ c d nz. omega (arith, t.header c nz, same_other d, head_off G r.state.mem j y c (λ x. d (x ∙ sym pj)), ap (λ (x : ℕ → ℕ). headers G.fields x c) em)))

    pub load_does : Does words (load_object G ext e n) s Post
    load_does = rw (ne_eqb n 0 (omega arith)) (by (ltb (location (2 * e)) 16) refl)
      where
        by : (c : Bool) → ltb (location (2 * e)) 16 ≡ c → Does words (seq (cond c nop (leaf (MOVL 1 0 (stack_offset G (location (2 * e)))) refl))
            (if_zero (CMPIM (cond c (location (2 * e)) TEMP) 0 0) refl (load_some G ext false e n) (seq (leaf (ADDIM (cond c (location (2 * e)) TEMP) 0 18446744073709551615) refl) (load_some G ext true e n)))) s Post
        by true q = go refl (branches s (location (2 * e)) refl refl refl keeps_refl (sym (held_register s.state.reg s.state.stk (location (2 * e)) (ltb-true (location (2 * e)) 16 q)) ∙ is ∙ pj))
        by false q = go (spill_MOVL words s en (location (2 * e)) (ltb-false (location (2 * e)) 16 q) fits.1 1) (branches (with_register s 1 (held s (location (2 * e)))) 1 refl refl refl (keeps_put 1 (held s (location (2 * e))) (λ x y. y) keeps_refl) (is ∙ pj))
