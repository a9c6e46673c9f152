-- Values stored into the fields of HEAP's block: the last variables into the last fields, and zeros before them.
use mathlib.Core.Bool.{Bool, true, false, cond}
use mathlib.Core.List.{[], ◌∷◌}
use mathlib.Core.Logic.{◌≢◌}
use mathlib.Core.Path.{◌≡◌, refl, sym, ◌∙◌, ap}
use Prim.Native.Nat.{ℕ, zero, suc, ◌+◌, ◌-◌, ◌*◌, ◌≤◌, ◌<◌}
use native.Mathlib.Decide.{ℕ_discrete}
use native.Mathlib.Omega.{arith}
use lib.Dec.{ltb}
use borrow.Author.Tests.{ltb-true, ltb-false}
use Rattle.records.specs.declared.code.Code.TheVariants.{MOVS, MOVL, MOVIM}
use Rattle.word.specs.Words.{choose}
use Rattle.trees.specs.Tree.{leaf, seq}
use Rattle.layout.specs.declared.config.Shape.{Shape}
use Rattle.layout.specs.Config.{block_words, operands, positions, fst_offset, snd_offset, stack_offset}
use Rattle.layout.specs.Positions.{location}
use Rattle.machine_step.specs.Step.{Config}
use Rattle.machine_step.specs.View.{upd}
use Rattle.memory.specs.Blocks.{store_field}
use Rattle.memory.specs.Objects.{store_zeros, store_value, store_values}
use Rattle.heap.specs.Blocks.{Cell}
use Rattle.heap.proofs.WordLemmas.{word_outside, cells_append}
use Rattle.heap.specs.Words.{word_at, cells_from}
use Rattle.layout_proof.specs.Held.{held, Keeps, Placed}
use Rattle.layout_proof.proofs.Operands.{with_register, block_address}
use Rattle.layout_proof.proofs.HeldLemmas.{location_free, upd_same, upd_other, held_register, keeps_refl, keeps_trans, keeps_put, keeps_register, placed_keeps, location_fits}
use Rattle.layout_proof.proofs.RecordLemmas.{block_MOVS, block_MOVIM, spill_MOVL}
use Rattle.layout_proof.proofs.Runs.{Does, one, then, go, weaken}
use Rattle.memory_proof.proofs.Shown.{}
use Rattle.memory_proof.proofs.Variables.{variable, variables, variables_snoc, variables_kept}

-- no word changes but those of fields t and up to n of block j
abbrev pub Only : Shape → ℕ → ℕ → ℕ → (ℕ → ℕ) → (ℕ → ℕ) → Type 0
Only G j t n m m' = (x w : ℕ) → w < block_words G → ((x ≡ j) × (2 + 2 * t ≤ w) × (w < 2 + 2 * n) → ⊥) → m' (word_at G.fields x w) ≡ m (word_at G.fields x w)

module _ (G : Shape) (ext : ℕ → Bool) where
  -- the last k of the first `free` fields of block j hold k variables from v on, those before them no pointer
  pub record Filled (s : Config) (v k free j : ℕ) (m : ℕ → ℕ) : Type 0 where
    pub vals : cells_from G.fields m j (free - k) k ≡ variables ext s v k
    pub zeros : (y : ℕ) → y < free - k → m (word_at G.fields j (2 + 2 * y)) ≡ 0
    pub only : Only G j 0 free s.state.mem m

-- a cell written into field t
written : (G : Shape) (m m' : ℕ → ℕ) (j t : ℕ) (c : Cell) → t < G.fields → m' ≡ upd (upd m (word_at G.fields j (3 + 2 * t)) c.snd) (word_at G.fields j (2 + 2 * t)) c.fst
    → (m' (word_at G.fields j (3 + 2 * t)) ≡ c.snd) × (m' (word_at G.fields j (2 + 2 * t)) ≡ c.fst) × Only G j t (suc t) m m'
written G m m' j t c t3 e =
    let i₁ : ℕ = word_at G.fields j (3 + 2 * t) in
    let i₂ : ℕ = word_at G.fields j (2 + 2 * t) in (
      ap (λ (f : ℕ → ℕ). f i₁) e ∙ upd_other (upd m i₁ c.snd) i₂ c.fst i₁ (omega arith) ∙ upd_same m i₁ c.snd,
      ap (λ (f : ℕ → ℕ). f i₂) e ∙ upd_same (upd m i₁ c.snd) i₂ c.fst,
      λ x w a b. ap (λ (f : ℕ → ℕ). f (word_at G.fields x w)) e ∙ upd_other (upd m i₁ c.snd) i₂ c.fst (word_at G.fields x w) (word_outside G.fields x j w (2 + 2 * t) (2 + 2 * t) (2 + 2 * suc t) a (omega arith) (omega arith) (omega arith) b) ∙ upd_other m i₁ c.snd (word_at G.fields x w) (word_outside G.fields x j w (3 + 2 * t) (2 + 2 * t) (2 + 2 * suc t) a (omega arith) (omega arith) (omega arith) b),
    )

module _ {G : Shape} (words : ℕ → ℕ) where
  pub store_field_lem : {N : ℕ} (s : Config) (l j o w : ℕ) → Placed G N s → s.state.reg 2 ≡ block_address G j → j < N → o ≡ 8 * w → w < block_words G → l < operands G
      → Does words (store_field G l 2 o) s (λ r. (r.state.mem ≡ upd s.state.mem (word_at G.fields j w) (held s l)) × Keeps (λ x. x ≢ 1) s r)
  store_field_lem {N} s l j o w v p h q f b = by (ltb l 16) refl
    where
      by : (c : Bool) → ltb l 16 ≡ c → Does words (cond c (leaf (MOVS l 2 o) refl) (seq (leaf (MOVL 1 0 (stack_offset G l)) refl) (leaf (MOVS 1 2 o) refl))) s
          (λ r. (r.state.mem ≡ upd s.state.mem (word_at G.fields j w) (held s l)) × Keeps (λ x. x ≢ 1) s r)
      by true e = one (block_MOVS words s v 2 j o w p h q f l) (rw (held_register s.state.reg s.state.stk l (ltb-true l 16 e)), keeps_refl)
      by false e = go (spill_MOVL words s v l (ltb-false l 16 e) b 1) (one (block_MOVS words (with_register s 1 (held s l)) v 2 j o w p h q f 1) (refl, keeps_put 1 (held s l) (λ x d. d) keeps_refl))

  pub store_zeros_lem : {N : ℕ} (s : Config) (n j : ℕ) → Placed G N s → s.state.reg 2 ≡ block_address G j → j < N → n ≤ G.fields
      → Does words (store_zeros n) s (λ r. ((y : ℕ) → y < n → r.state.mem (word_at G.fields j (2 + 2 * y)) ≡ 0) × Only G j 0 n s.state.mem r.state.mem × Keeps (λ x. x ≢ 1) s r)
  store_zeros_lem s zero j en p h f = one refl ((λ y a. absurd (omega arith)), (λ x w a b. refl), keeps_refl)
  store_zeros_lem {N} s (suc n) j en p h f =
      then (store_zeros_lem s n j en p h (omega arith)) (λ r d.
      let i : ℕ = word_at G.fields j (2 + 2 * n) in
      one (block_MOVIM words r (placed_keeps (omega arith) d.2 en) 2 j (fst_offset n) (2 + 2 * n) (keeps_register d.2 2 (omega arith) (omega arith) ∙ p) h (omega arith) (omega arith) 0) (
        (λ y a. at r d.0 y a (ℕ_discrete y n)),
        (λ x w a b. upd_other r.state.mem i 0 (word_at G.fields x w) (word_outside G.fields x j w (2 + 2 * n) (2 + 2 * 0) (2 + 2 * suc n) a (omega arith) (omega arith) (omega arith) b) ∙ d.1 x w a (λ c. b (c.0, c.1, omega (arith, c.2)))),
        d.2,
      ))
    where
      at : (r : Config) → ((y : ℕ) → y < n → r.state.mem (word_at G.fields j (2 + 2 * y)) ≡ 0) → (y : ℕ) → y < suc n → Dec (y ≡ n) → upd r.state.mem (word_at G.fields j (2 + 2 * n)) 0 (word_at G.fields j (2 + 2 * y)) ≡ 0
      at r z y a (yes e) = rw e (upd_same r.state.mem (word_at G.fields j (2 + 2 * n)) 0)
      at r z y a (no e) = upd_other r.state.mem (word_at G.fields j (2 + 2 * n)) 0 (word_at G.fields j (2 + 2 * y)) (omega arith) ∙ z y (omega arith)

  module _ (ext : ℕ → Bool) where
    pub store_value_lem : {N : ℕ} (s : Config) (v t j : ℕ) → Placed G N s → s.state.reg 2 ≡ block_address G j → j < N → t < G.fields → 2 * v + 2 < positions G
        → Does words (store_value G ext v t) s (λ r. (r.state.mem ≡ upd (upd s.state.mem (word_at G.fields j (3 + 2 * t)) (variable ext s v).snd) (word_at G.fields j (2 + 2 * t)) (variable ext s v).fst) × Keeps (λ x. x ≢ 1) s r)
    store_value_lem {N} s v t j en p h f g =
        then (store_field_lem s (location (2 * v + 1)) j (snd_offset t) (3 + 2 * t) en p h (omega arith) (omega arith) (location_fits G (2 * v + 1) (omega arith)).1) (λ r d. by r d (ext v))
      where
        by : (r : Config) → (r.state.mem ≡ upd s.state.mem (word_at G.fields j (3 + 2 * t)) (variable ext s v).snd) × Keeps (λ x. x ≢ 1) s r → (c : Bool)
            → Does words (cond c (leaf (MOVIM 2 (fst_offset t) 0) refl) (store_field G (location (2 * v)) 2 (fst_offset t))) r
            (λ q. (q.state.mem ≡ upd (upd s.state.mem (word_at G.fields j (3 + 2 * t)) (variable ext s v).snd) (word_at G.fields j (2 + 2 * t)) (choose c 0 (held s (location (2 * v))))) × Keeps (λ x. x ≢ 1) s q)
        by r d true = one (block_MOVIM words r (placed_keeps (omega arith) d.1 en) 2 j (fst_offset t) (2 + 2 * t) (keeps_register d.1 2 (omega arith) (omega arith) ∙ p) h (omega arith) (omega arith) 0) (rw d.0, d.1)
        by r d false =
            let b = location_fits G (2 * v) (omega arith) in
            weaken (λ q c. (c.0 ∙ rw (d.0, d.1.kept (location (2 * v)) (omega arith)), keeps_trans d.1 c.1))
            (store_field_lem r (location (2 * v)) j (fst_offset t) (2 + 2 * t) (placed_keeps (omega arith) d.1 en) (keeps_register d.1 2 (omega arith) (omega arith) ∙ p) h (omega arith) (omega arith) b.1)

    pub store_values_lem : {N : ℕ} (s : Config) (v k free j : ℕ) → Placed G N s → s.state.reg 2 ≡ block_address G j → j < N → k ≤ free → free ≤ G.fields → 2 * (v + k) < positions G
        → Does words (store_values G ext v k free) s (λ r. Filled G ext s v k free j r.state.mem × Keeps (λ x. x ≢ 1) s r)
    unfolding cells_from
    store_values_lem s v zero free j en p h f g o =
        weaken (λ r d. (record { vals = refl; zeros = λ y a. d.0 y (omega arith); only = λ x w a b. d.1 x w a (λ c. b (c.0, c.1, omega (arith, c.2))) }, d.2))
        (store_zeros_lem s free j en p h g)
    store_values_lem s v (suc k) free j en p h f g o =
        let t : ℕ = free - 1 in
        let c : Cell = variable ext s (v + k) in
        then (store_value_lem s (v + k) t j en p h (omega arith) (omega arith)) (λ r d.
        let wr = written G s.state.mem r.state.mem j t c (omega arith) d.0 in
        weaken (λ q e.
        let y : Filled G ext r v k t j q.state.mem = e.0 in
        let b₁ : q.state.mem (word_at G.fields j (3 + 2 * t)) ≡ c.snd = y.only j (3 + 2 * t) (omega arith) (λ z. omega (arith, z.2)) ∙ wr.0 in
        let b₂ : q.state.mem (word_at G.fields j (2 + 2 * t)) ≡ c.fst = y.only j (2 + 2 * t) (omega arith) (λ z. omega (arith, z.2)) ∙ wr.1 in
        let n₁ : free - suc k ≡ t - k = omega arith in
        let n₂ : suc k ≡ k + 1 = omega arith in
        let n₃ : t - k + k ≡ t = omega arith in
        let final : cells_from G.fields q.state.mem j (t - k + k) 1 ≡ c ∷ [] = rw (n₃, b₁, b₂) in
        let vs : variables ext r v k ≡ variables ext s v k = variables_kept ext s r v k (λ p a b. omega (arith, (location_free p).0)) d.1 in (
          record {
            vals = rw (n₁) (ap (cells_from G.fields q.state.mem j (t - k)) n₂ ∙ cells_append G.fields q.state.mem j (t - k) k 1 ∙ rw (final, y.vals, vs) (sym (variables_snoc ext s v k)));
            zeros = λ u a. y.zeros u (omega arith);
            only = λ x w a b. y.only x w a (λ z. b (z.0, z.1, omega (arith, z.2))) ∙ wr.2 x w a (λ z. b (z.0, omega (arith, z.1), omega (arith, z.2)));
          },
          keeps_trans d.1 e.1,
        ))
        (store_values_lem r v k t j (placed_keeps (omega arith) d.1 en) (keeps_register d.1 2 (omega arith) (omega arith) ∙ p) h (omega arith) (omega arith) (omega arith)))
