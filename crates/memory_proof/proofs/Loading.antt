-- Values loaded from the fields of a block into variables, in either mode: the block is released, or it stays and each pointer loaded is shared.
use mathlib.Core.Bool.{Bool, true, false, cond}
use mathlib.Core.List.{List, [], ◌∷◌, ◌++◌}
use mathlib.Core.Logic.{◌≢◌}
use mathlib.Core.Path.{◌≡◌, refl, sym, ◌∙◌, ap}
use Prim.Native.Nat.{ℕ, zero, suc, ◌+◌, ◌-◌, ◌*◌, ◌≤◌, ◌<◌}
use native.Mathlib.Decide.{ℕ_discrete}
use native.Mathlib.Omega.{arith}
use lib.Dec.{ltb}
use lib.ListN.{length}
use borrow.Author.Tests.{ltb-true, ltb-false}
use Rattle.records.specs.declared.code.Code.TheVariants.{MOVS, MOVL}
use Rattle.records.proofs.Conditions.{never}
use Rattle.word.specs.Words.{choose}
use Rattle.trees.specs.Tree.{nop, leaf, seq}
use Rattle.layout.specs.declared.config.Shape.{Shape}
use Rattle.layout.specs.Config.{block_words, operands, positions, TEMP, fst_offset, snd_offset, stack_offset, register_for}
use Rattle.layout.specs.Positions.{location}
use Rattle.machine_step.specs.Step.{Config}
use Rattle.machine_step.specs.View.{upd}
use Rattle.memory.specs.Blocks.{share_register, load_field}
use Rattle.memory.specs.Objects.{load_value, load_values}
use Rattle.heap.specs.Blocks.{Cell, cell, pointers}
use Rattle.heap.specs.Counting.{same, occ}
use Rattle.heap.proofs.CountingLemmas.{same_self, same_other, occ_append}
use Rattle.heap.proofs.WordLemmas.{header_at, cells_length, cells_append, cells_agree}
use Rattle.heap.specs.Words.{word_at, headers, cells_from}
use Rattle.layout_proof.specs.Held.{held, Keeps, Placed}
use Rattle.layout_proof.proofs.Operands.{with_register, block_address}
use Rattle.layout_proof.proofs.HeldLemmas.{upd_same, register_same, spill_same, keeps_refl, keeps_trans, keeps_sub, keeps_put, keeps_spill, in_frame, keeps_register, placed_keeps, location_grows, location_fits, location_apart}
use Rattle.layout_proof.proofs.RecordLemmas.{block_MOVL, spill_MOVS}
use Rattle.layout_proof.proofs.Runs.{Does, one, then, go, weaken, so}
use Rattle.memory_proof.proofs.Sharing.{Shareable, Counts, share_does}
use Rattle.memory_proof.proofs.Shown.{SameFields}
use Rattle.memory_proof.proofs.Variables.{variable, variables, variables_snoc}

-- what a load in either mode does to the words: nothing, or the pointers loaded are counted
pub data Counted (G : Shape) : Bool → List ℕ → (ℕ → ℕ) → (ℕ → ℕ) → Type 0 where
  idle : {ps : List ℕ} {m m' : ℕ → ℕ} → m' ≡ m → Counted G false ps m m'
  more_of : {ps : List ℕ} {m m' : ℕ → ℕ} → Counts G ps m m' → Counted G true ps m m'

-- what sharing some pointers asks, K of them at most
pub record MayShare (G : Shape) (c : Bool) (N K : ℕ) (m : ℕ → ℕ) (ps : List ℕ) : Type 0 where
  pub each : c ≡ true → (p : ℕ) → occ p ps ≢ 0 → Shareable G N m K p

pub counted_none : {G : Shape} (c : Bool) (m : ℕ → ℕ) → Counted G c [] m m
counted_none false m = idle refl
counted_none true m = more_of {ps = []} {m = m} {m' = m} (record { fields = λ x w a b. refl; counts = λ b nz. omega arith })

pub counted_fields : {G : Shape} {c : Bool} {ps : List ℕ} {m m' : ℕ → ℕ} → Counted G c ps m m' → SameFields G m m'
counted_fields (idle e) x w a b = rw e
counted_fields (more_of e) x w a b = e.fields x w a b

pub counted_then : {G : Shape} {c : Bool} {ps qs : List ℕ} {m m₁ m₂ : ℕ → ℕ} → Counted G c qs m m₁ → Counted G c ps m₁ m₂ → Counted G c (ps ++ qs) m m₂
counted_then (idle a) (idle b) = idle (b ∙ a)
counted_then {ps = ps} {qs = qs} {m = m} {m₂ = m₂} (more_of a) (more_of b) = more_of {ps = ps ++ qs} {m = m} {m' = m₂} (record { fields = λ x w l h. b.fields x w l h ∙ a.fields x w l h; counts = λ x nz. omega (arith, a.counts x nz, b.counts x nz, occ_append x ps qs) })

at_most : (p q : ℕ) → occ p (q ∷ []) ≤ 1
at_most p q = by (ℕ_discrete p q)
  where
    by : Dec (p ≡ q) → occ p (q ∷ []) ≤ 1
    by (yes e) = omega (arith, ap (λ (x : ℕ). same x q) e, same_self q)
    by (no d) = omega (arith, same_other d)

-- those left, after one
pub may_share_rest : {G : Shape} {c : Bool} {N K q : ℕ} {m m₁ : ℕ → ℕ} (ps : List ℕ) → Counted G c (q ∷ []) m m₁ → MayShare G c N (suc K) m (ps ++ (q ∷ [])) → MayShare G c N K m₁ ps
may_share_rest ps (idle a) f = record { each = never }
may_share_rest {G} {N = N} {K = K} {q = q} {m = m} {m₁ = m₁} ps (more_of a) f = record {
  each = λ e p n z.
      let g = f.each refl p (omega (arith, occ_append p ps (q ∷ []))) z in
      let h₁ : headers G.fields m₁ p ≡ m₁ (word_at G.fields g.0 0) = ap (headers G.fields m₁) g.2 ∙ header_at G.fields m₁ g.0 in
      let h₂ : headers G.fields m p ≡ m (word_at G.fields g.0 0) = ap (headers G.fields m) g.2 ∙ header_at G.fields m g.0 in
      (g.0, g.1, g.2, omega (arith, g.3, a.counts p z, at_most p q));
}

pub pointers_append : (xs ys : List Cell) → pointers (xs ++ ys) ≡ pointers xs ++ pointers ys
pointers_append [] ys = refl
pointers_append (x ∷ xs) ys = ap (λ (z : List ℕ). x.fst ∷ z) (pointers_append xs ys)

pub may_share_last : {G : Shape} {c : Bool} {N K : ℕ} {m : ℕ → ℕ} (ps qs : List ℕ) → 1 ≤ K → MayShare G c N K m (ps ++ qs) → MayShare G c N 1 m qs
may_share_last ps qs h f = record { each = λ e p n z. let g = f.each e p (omega (arith, occ_append p ps qs)) z in (g.0, g.1, g.2, omega (arith, g.3)) }

-- field t of block j
abbrev pub cell_at : Shape → (ℕ → ℕ) → ℕ → ℕ → Cell
cell_at G m j t = cell (m (word_at G.fields j (2 + 2 * t))) (m (word_at G.fields j (3 + 2 * t)))

pub cells_snoc : (G : Shape) (m : ℕ → ℕ) (j t n : ℕ) → cells_from G.fields m j t (suc n) ≡ cells_from G.fields m j t n ++ (cell_at G m j (t + n) ∷ [])
unfolding cells_from
cells_snoc G m j t n = let e : suc n ≡ n + 1 = omega arith in ap (cells_from G.fields m j t) e ∙ cells_append G.fields m j t n 1

-- the operands that are not TEMP nor any of k variables from v on
abbrev pub Outside : ℕ → ℕ → ℕ → Type 0
Outside v k x = (x ≢ 1) × ((p : ℕ) → 2 * v ≤ p → p < 2 * (v + k) → x ≢ location p)

module _ (ext : ℕ → Bool) where
  -- what a variable shows of a field
  abbrev pub as_variable : ℕ → Cell → Cell
  as_variable v c = cell (choose (ext v) 0 c.fst) c.snd

  abbrev pub as_variables : ℕ → List Cell → List Cell
  as_variables v [] = []
  as_variables v (c ∷ cs) = as_variable v c ∷ as_variables (suc v) cs

  pub as_variables_snoc : (v : ℕ) (cs : List Cell) (c : Cell) → as_variables v (cs ++ (c ∷ [])) ≡ as_variables v cs ++ (as_variable (v + length cs) c ∷ [])
  as_variables_snoc v [] c = let e : v + 0 ≡ v = omega arith in rw e
  as_variables_snoc v (d ∷ cs) c = let e : v + suc (length cs) ≡ suc v + length cs = omega arith in rw e (ap (λ (x : List Cell). as_variable v d ∷ x) (as_variables_snoc (suc v) cs c))

module _ (G : Shape) (ext : ℕ → Bool) where
  -- the last k of the first `free` fields of block j, as the variables from v on show them
  abbrev pub shown_by : ℕ → ℕ → (ℕ → ℕ) → ℕ → ℕ → List Cell
  shown_by v k m j free = as_variables ext v (cells_from G.fields m j (free - k) k)

  shown_snoc : (v k : ℕ) (m : ℕ → ℕ) (j free : ℕ) → suc k ≤ free → shown_by v (suc k) m j free ≡ shown_by v k m j (free - 1) ++ (as_variable ext (v + k) (cell_at G m j (free - 1)) ∷ [])
  shown_snoc v k m j free h =
      let a : free - suc k ≡ free - 1 - k = omega arith in
      let b : free - 1 - k + k ≡ free - 1 = omega arith in
      let c : length (cells_from G.fields m j (free - 1 - k) k) ≡ k = cells_length G.fields m j (free - 1 - k) k in
      ap (λ (x : ℕ). as_variables ext v (cells_from G.fields m j x (suc k))) a ∙ ap (as_variables ext v) (cells_snoc G m j (free - 1 - k) k ∙ ap (λ (x : ℕ). cells_from G.fields m j (free - 1 - k) k ++ (cell_at G m j x ∷ [])) b)
      ∙ as_variables_snoc ext v (cells_from G.fields m j (free - 1 - k) k) (cell_at G m j (free - 1)) ∙ ap (λ (x : ℕ). shown_by v k m j (free - 1) ++ (as_variable ext (v + x) (cell_at G m j (free - 1)) ∷ [])) c

module _ {G : Shape} (words : ℕ → ℕ) where
  pub load_field_lem : {N : ℕ} (s : Config) (l b j o w : ℕ) → Placed G N s → s.state.reg b ≡ block_address G j → j < N → o ≡ 8 * w → w < block_words G → 4 ≤ l → l < operands G
      → Does words (load_field G l b o) s (λ r. (held r l ≡ s.state.mem (word_at G.fields j w)) × (r.state.reg (register_for l) ≡ s.state.mem (word_at G.fields j w)) × (r.state.mem ≡ s.state.mem) × Keeps (λ x. (x ≢ 1) × (x ≢ l)) s r)
  load_field_lem {N} s l b j o w v p h q f a g = by (ltb l 16) refl
    where
      by : (c : Bool) → ltb l 16 ≡ c → Does words (cond c (leaf (MOVL l b o) refl) (seq (leaf (MOVL 1 b o) refl) (leaf (MOVS 1 0 (stack_offset G l)) refl))) s
          (λ r. (held r l ≡ s.state.mem (word_at G.fields j w)) × (r.state.reg (cond c l TEMP) ≡ s.state.mem (word_at G.fields j w)) × (r.state.mem ≡ s.state.mem) × Keeps (λ x. (x ≢ 1) × (x ≢ l)) s r)
      by true e = let y : ℕ = s.state.mem (word_at G.fields j w) in
          one (block_MOVL words s v b j o w p h q f l) (register_same s.state.reg s.state.stk l y (ltb-true l 16 e), upd_same s.state.reg l y, refl, keeps_put l y (λ x d. d.1) keeps_refl)
      by false e =
          let y : ℕ = s.state.mem (word_at G.fields j w) in
          let k : 16 ≤ l = ltb-false l 16 e in
          go (block_MOVL words s v b j o w p h q f 1) (one (spill_MOVS words (with_register s 1 y) v l k g 1)
          (spill_same (upd s.state.reg 1 y) s.state.stk l y k, refl, refl, keeps_spill l y k (in_frame l v g) (λ x d. d.1) (keeps_put 1 y (λ x d. d.0) keeps_refl)))

  module _ (ext : ℕ → Bool) (sh : Bool) where
    share_part : {N : ℕ} (s : Config) (b : ℕ) (c : Bool) → Placed G N s → MayShare G c N 1 s.state.mem (s.state.reg b ∷ []) → Does words (cond c (share_register b 1) nop) s (λ r. Counted G c (s.state.reg b ∷ []) s.state.mem r.state.mem × Keeps (λ x. Unit {0}) s r)
    share_part s b true v f = weaken (λ r d. (more_of d.0, d.1)) (share_does words s b 1 v (f.each refl (s.state.reg b) (omega (arith, same_self (s.state.reg b)))))
    share_part s b false v f = one refl (idle refl, keeps_refl)

    pub load_value_lem : {N : ℕ} (s : Config) (v t b j : ℕ) → Placed G N s → s.state.reg b ≡ block_address G j → j < N → b < 16 → b ≢ 1 → location (2 * v + 1) ≢ b → t < G.fields → 2 * v + 2 < positions G → MayShare G sh N 1 s.state.mem ((as_variable ext v (cell_at G s.state.mem j t)).fst ∷ [])
        → Does words (load_value G ext sh v t b) s (λ r. (variable ext r v ≡ as_variable ext v (cell_at G s.state.mem j t)) × Counted G sh ((as_variable ext v (cell_at G s.state.mem j t)).fst ∷ []) s.state.mem r.state.mem × Keeps (λ x. (x ≢ 1) × (x ≢ location (2 * v)) × (x ≢ location (2 * v + 1))) s r)
    load_value_lem {N} s v t b j en p h b16 b1 ne t3 vl f =
        let c₁ = location_fits G (2 * v + 1) (omega arith) in
        let c₀ = location_fits G (2 * v) (omega arith) in
        then (load_field_lem s (location (2 * v + 1)) b j (snd_offset t) (3 + 2 * t) en p h (omega arith) (omega arith) c₁.0 c₁.1) (λ r d. by r d.0 d.2 d.3 (ext v) f)
      where
        by : (r : Config) → held r (location (2 * v + 1)) ≡ s.state.mem (word_at G.fields j (3 + 2 * t)) → r.state.mem ≡ s.state.mem → Keeps (λ x. (x ≢ 1) × (x ≢ location (2 * v + 1))) s r → (c : Bool)
            → MayShare G sh N 1 s.state.mem (choose c 0 (s.state.mem (word_at G.fields j (2 + 2 * t))) ∷ [])
            → Does words (cond c nop (seq (load_field G (location (2 * v)) b (fst_offset t)) (cond sh (share_register (register_for (location (2 * v))) 1) nop))) r
            (λ q. (◌≡◌ {A = Cell} (cell (choose c 0 (held q (location (2 * v)))) (held q (location (2 * v + 1)))) (cell (choose c 0 (s.state.mem (word_at G.fields j (2 + 2 * t)))) (s.state.mem (word_at G.fields j (3 + 2 * t)))))
            × Counted G sh (choose c 0 (s.state.mem (word_at G.fields j (2 + 2 * t))) ∷ []) s.state.mem q.state.mem × Keeps (λ x. (x ≢ 1) × (x ≢ location (2 * v)) × (x ≢ location (2 * v + 1))) s q)
        by r e m k true f = one refl (rw e, null sh s.state.mem r.state.mem m, keeps_sub (λ x y. (y.0, y.2)) k)
          where
            null : (c : Bool) (a b : ℕ → ℕ) → b ≡ a → Counted G c (0 ∷ []) a b
            null false a b e = idle e
            null true a b e = more_of {ps = 0 ∷ []} {m = a} {m' = b} (record { fields = λ x w h l. rw e; counts = λ x nz. rw e (omega (arith, same_other {a = x} {b = 0} nz)) })
        by r e m k false f =
            let c₁ = location_fits G (2 * v + 1) (omega arith) in
            let c₀ = location_fits G (2 * v) (omega arith) in
            let lt = location_grows (2 * v) (2 * v + 1) (omega arith) in
            then (load_field_lem r (location (2 * v)) b j (fst_offset t) (2 + 2 * t) (placed_keeps (omega arith) k en) (keeps_register k b b16 (b1, λ q. ne (sym q)) ∙ p) h (omega arith) (omega arith) c₀.0 c₀.1) (λ q d.
            let g : q.state.mem ≡ s.state.mem = d.2 ∙ m in
            let w : q.state.reg (register_for (location (2 * v))) ≡ s.state.mem (word_at G.fields j (2 + 2 * t)) = d.1 ∙ ap (λ (x : ℕ → ℕ). x (word_at G.fields j (2 + 2 * t))) m in
            let kq : Keeps (λ x. (x ≢ 1) × (x ≢ location (2 * v)) × (x ≢ location (2 * v + 1))) s q = keeps_trans (keeps_sub (λ x y. (y.0, y.2)) k) (keeps_sub (λ x y. (y.0, y.1)) d.3) in
            let f₁ : MayShare G sh N 1 q.state.mem (q.state.reg (register_for (location (2 * v))) ∷ []) = rw (w, g) f in
            weaken (λ u z.
            let a₀ : held u (location (2 * v)) ≡ s.state.mem (word_at G.fields j (2 + 2 * t)) = z.1.kept (location (2 * v)) tt ∙ d.0 ∙ ap (λ (x : ℕ → ℕ). x (word_at G.fields j (2 + 2 * t))) m in
            let a₁ : held u (location (2 * v + 1)) ≡ s.state.mem (word_at G.fields j (3 + 2 * t)) = z.1.kept (location (2 * v + 1)) tt ∙ d.3.kept (location (2 * v + 1)) (omega arith, omega (arith, lt.1)) ∙ e in
            (rw (a₀, a₁), rw (w, g) at z.0, keeps_trans kq (keeps_sub (λ x y. tt) z.1)))
            (share_part q (register_for (location (2 * v))) sh (placed_keeps (omega (arith, c₀.0, c₁.0)) kq en) f₁))

    pub load_values_lem : {N : ℕ} (s : Config) (v k free b j K : ℕ) → Placed G N s → (1 ≤ k → s.state.reg b ≡ block_address G j) → j < N → b < 16 → b ≢ 1 → ((p : ℕ) → 2 * v < p → p < 2 * (v + k) → location p ≢ b) → k ≤ free → free ≤ G.fields → 2 * (v + k) < positions G
        → k ≤ K → MayShare G sh N K s.state.mem (pointers (shown_by G ext v k s.state.mem j free))
        → Does words (load_values G ext sh v k free b) s (λ r. (variables ext r v k ≡ shown_by G ext v k s.state.mem j free) × Counted G sh (pointers (shown_by G ext v k s.state.mem j free)) s.state.mem r.state.mem × Keeps (Outside v k) s r)
    unfolding cells_from
    load_values_lem s v zero free b j K en p h b16 b1 ne kf f3 vk kk f = one refl (refl, counted_none sh s.state.mem, keeps_refl)
    load_values_lem {N} s v (suc k) free b j K en p h b16 b1 ne kf f3 vk kk f =
        let t : ℕ = free - 1 in
        let c : Cell = as_variable ext (v + k) (cell_at G s.state.mem j t) in
        let E : shown_by G ext v (suc k) s.state.mem j free ≡ shown_by G ext v k s.state.mem j t ++ (c ∷ []) = shown_snoc G ext v k s.state.mem j free kf in
        let P : pointers (shown_by G ext v (suc k) s.state.mem j free) ≡ pointers (shown_by G ext v k s.state.mem j t) ++ (c.fst ∷ []) = ap pointers E ∙ pointers_append (shown_by G ext v k s.state.mem j t) (c ∷ []) in
        let q : K ≡ suc (K - 1) = omega arith in
        let f₁ : MayShare G sh N (suc (K - 1)) s.state.mem (pointers (shown_by G ext v k s.state.mem j t) ++ (c.fst ∷ [])) = rw (← q, ← P) f in
        then (load_value_lem s (v + k) t b j en (p (omega arith)) h b16 b1 (ne (2 * (v + k) + 1) (omega arith) (omega arith)) (omega arith) (omega arith) (may_share_last (pointers (shown_by G ext v k s.state.mem j t)) (c.fst ∷ []) (omega arith) f₁)) (λ r d.
        let w : SameFields G s.state.mem r.state.mem = counted_fields d.1 in
        let agree : shown_by G ext v k r.state.mem j t ≡ shown_by G ext v k s.state.mem j t = ap (as_variables ext v) (cells_agree G.fields s.state.mem r.state.mem j (t - k) k (λ y a e. w j y (omega arith) (omega arith))) in
        let kd : Keeps (λ x. (x ≢ 1) × (x ≢ location (2 * (v + k))) × (x ≢ location (2 * (v + k) + 1))) s r = d.2 in
        let f₂ : MayShare G sh N (K - 1) r.state.mem (pointers (shown_by G ext v k r.state.mem j t)) = rw agree (may_share_rest (pointers (shown_by G ext v k s.state.mem j t)) d.1 f₁) in
        so (load_values_lem r v k t b j (K - 1) (placed_keeps (omega arith, omega (arith, (location_fits G (2 * (v + k)) (omega arith)).0), omega (arith, (location_fits G (2 * (v + k) + 1) (omega arith)).0)) kd en)
        (λ o. keeps_register kd b b16 (b1, (λ z. ne (2 * (v + k)) (omega arith) (omega arith) (sym z)), (λ z. ne (2 * (v + k) + 1) (omega arith) (omega arith) (sym z))) ∙ p (omega arith)) h b16 b1 (λ x a z. ne x a (omega arith)) (omega arith) (omega arith) (omega arith) (omega arith) f₂) (λ u e.
        let l₀ : held u (location (2 * (v + k))) ≡ held r (location (2 * (v + k))) = e.2.kept (location (2 * (v + k))) (omega (arith, (location_fits G (2 * (v + k)) (omega arith)).0), λ p a z. location_apart (2 * (v + k)) p (omega arith)) in
        let l₁ : held u (location (2 * (v + k) + 1)) ≡ held r (location (2 * (v + k) + 1)) = e.2.kept (location (2 * (v + k) + 1)) (omega (arith, (location_fits G (2 * (v + k) + 1) (omega arith)).0), λ p a z. location_apart (2 * (v + k) + 1) p (omega arith)) in
        let vl : variable ext u (v + k) ≡ c = rw (l₀, l₁) d.0 in (
          variables_snoc ext u v k ∙ rw (e.0, agree, vl) (sym E),
          rw P (counted_then d.1 (rw agree at e.1)),
          keeps_trans (keeps_sub (λ x y. (y.0, y.1 (2 * (v + k)) (omega arith) (omega arith), y.1 (2 * (v + k) + 1) (omega arith) (omega arith))) kd) (keeps_sub (λ x y. (y.0, λ p a z. y.1 p a (omega arith))) e.2),
        )))
