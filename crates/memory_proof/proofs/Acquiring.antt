-- Taking a block does the abstract heap's acquire: the block is in the target, HEAP goes on, and no field changes.
use mathlib.Core.Bool.{Bool, true, false, cond}
use mathlib.Core.List.{List, [], ◌∷◌, ◌++◌}
use mathlib.Core.Logic.{◌≢◌}
use mathlib.Core.Path.{◌≡◌, refl, sym, ◌∙◌, ap, subst}
use Prim.Native.Nat.{ℕ, suc, ◌+◌, ◌*◌, ◌%◌, ◌^◌, ◌≤◌, ◌<◌}
use native.Mathlib.Decide.{ℕ_discrete, dec_lt}
use native.Mathlib.Omega.{arith}
use lib.Dec.{ltb}
use lib.ListN.{length}
use borrow.Author.Tests.{eq-eqb, ne_eqb, ltb-true, ltb-false}
use Rattle.records.specs.declared.code.Code.TheVariants.{ADDI, MOV, MOVS, MOVL, MOVIM, CMPI}
use Rattle.word.specs.Words.{sum}
use Rattle.trees.specs.Tree.{Tree, leaf, seq, if_zero}
use Rattle.layout.specs.declared.config.Shape.{Shape}
use Rattle.layout.specs.Config.{Supported, block_words, block_bytes, operands, TEMP, stack_offset, register_for}
use Rattle.machine_step.specs.Step.{Config, dropped}
use Rattle.machine_step.specs.View.{upd}
use Rattle.memory.specs.Blocks.{erase_fields, take_block, next_lazy, next_block, acquire_block}
use Rattle.heap.proofs.BlockLemmas.{block_number_lem, block_nonzero}
use Rattle.heap.specs.Blocks.{pointers, children}
use Rattle.heap.specs.Counting.{same}
use Rattle.heap.proofs.CountingLemmas.{same_self, remove}
use Rattle.heap.proofs.Invariant.{Invariant}
use Rattle.heap.proofs.OperationLemmas.{head_free, acquire_lazy, erase_pointers}
use Rattle.heap.specs.Operations.{EraseAll, Acquire, from_linear, from_frontier, from_lazy}
use Rattle.heap.proofs.WordLemmas.{heap_below, header_at, fields_at, cells_agree}
use Rattle.heap.specs.Words.{word_at, headers, cells_from, block_fields}
use Rattle.layout_proof.specs.Held.{held, Keeps, Placed}
use Rattle.layout_proof.proofs.Operands.{with_register, with_heap, block_address}
use Rattle.layout_proof.proofs.HeldLemmas.{upd_same, upd_other, register_same, spill_same, keeps_refl, keeps_trans, keeps_sub, keeps_put, keeps_spill, in_frame, keeps_register, placed_keeps}
use Rattle.layout_proof.proofs.RecordLemmas.{register_MOV, register_ADDI, register_compared, block_MOVL, block_MOVIM, spill_MOVS}
use Rattle.layout_proof.proofs.Runs.{Does, one, go, weaken, if_yes, if_no}
use Rattle.memory_proof.proofs.Attempting.{Attempts, does, faults, attempt_then, attempt_go, attempt_weaken, attempt_yes, block_outside}
use Rattle.memory_proof.proofs.Erasing.{children_does}
use Rattle.memory_proof.proofs.Shown.{L, SameFields, head_same, head_off, head_fields, head_cells}

-- not TEMP, HEAP or FREE
abbrev pub Low : ℕ → Type 0
Low l = (l ≢ 1) × (l ≢ 2) × (l ≢ 3)

module _ (G : Shape) {n heap free : ℕ} {h : ℕ → ℕ} {k : ℕ → List ℕ} {rest lazy live roots : List ℕ} where
  pub heap_ok_lem : Invariant (L G) k h heap free n rest lazy live roots → (i : ℕ) × (i < n) × (heap ≡ block_address G i)
  heap_ok_lem v = block_number_lem (L G) n heap (omega (arith, (head_free v).0))

pub free_ok : (G : Shape) {n heap free : ℕ} {h : ℕ → ℕ} {k : ℕ → List ℕ} {rest live roots : List ℕ} (lazy : List ℕ) → Invariant (L G) k h heap free n rest lazy live roots → (i : ℕ) × (i < suc n) × (free ≡ block_address G i)
free_ok G {n = n} [] v = (n, omega arith, v.lazy_chain)
free_ok G {n = n} (f ∷ ys) v =
    let r = block_number_lem (L G) n f (omega (arith, v.lazy_live f, v.parts f, same_self f)) in
    (r.0, omega (arith, r.1), v.lazy_chain.0 ∙ r.2)

bumped : {G : Shape} → Supported G → (i : ℕ) → i < 1048576 → (x : ℕ) → block_address G i ≡ block_address G x → sum (block_address G i) (block_bytes G) ≡ block_address G (suc x)
unfolding sum
bumped {G} z i h x e =
    let b : block_words G * suc i ≤ 16 * suc i = heap_below G.fields (suc i) z.few in
    let q : (block_address G i + block_bytes G) % 2 ^ 64 ≡ block_address G i + block_bytes G = omega arith in
    q ∙ omega arith

-- FREE is a block's address or that of the end
abbrev pub Within : Shape → ℕ → ℕ → Type 0
Within G N free = (i : ℕ) × (i ≤ N) × (free ≡ block_address G i)

-- what taking a block does to the memory and to HEAP and FREE
pub record Taken (G : Shape) (m : ℕ → ℕ) (heap free : ℕ) (m' : ℕ → ℕ) (heap' free' : ℕ) : Type 0 where
  pub did : Acquire (L G) (children (block_fields G.fields m)) (headers G.fields m) heap free (headers G.fields m') heap' free'
  pub fields : SameFields G m m'

module _ {G : Shape} (words : ℕ → ℕ) where
  -- the block taken is in the location, and in a register
  pub take_does : {N : ℕ} (s : Config) (l : ℕ) → Placed G N s → 4 ≤ l → l < operands G
      → Does words (take_block G l) s (λ r. (held r l ≡ s.state.reg 2) × (r.state.reg (register_for l) ≡ s.state.reg 2) × (r.state.mem ≡ s.state.mem) × Keeps (λ x. (x ≢ 1) × (x ≢ l)) s r)
  take_does {N} s l v a b = by (ltb l 16) refl
    where
      by : (c : Bool) → ltb l 16 ≡ c → Does words (cond c (leaf (MOV l 2) refl) (seq (leaf (MOV 1 2) refl) (leaf (MOVS 2 0 (stack_offset G l)) refl))) s
          (λ r. (held r l ≡ s.state.reg 2) × (r.state.reg (cond c l TEMP) ≡ s.state.reg 2) × (r.state.mem ≡ s.state.mem) × Keeps (λ x. (x ≢ 1) × (x ≢ l)) s r)
      by true e = one (register_MOV words s l 2) (register_same s.state.reg s.state.stk l (s.state.reg 2) (ltb-true l 16 e), upd_same s.state.reg l (s.state.reg 2), refl, keeps_put l (s.state.reg 2) (λ x d. d.1) keeps_refl)
      by false e =
          let h : 16 ≤ l = ltb-false l 16 e in
          go (register_MOV words s 1 2) (one (spill_MOVS words (with_register s 1 (s.state.reg 2)) v l h b 2)
          (spill_same (upd s.state.reg 1 (s.state.reg 2)) s.state.stk l (s.state.reg 2) h, refl, refl, keeps_spill l (s.state.reg 2) h (in_frame l v b) (λ x d. d.1) (keeps_put 1 (s.state.reg 2) (λ x d. d.0) keeps_refl)))

  module _ {N n : ℕ} (roots : List ℕ) (s : Config) (v : Placed G N s) (room : n ≤ N) (few : length roots ≤ 1048559) where
    abbrev Goal : Tree → Config → Type 0
    Goal t u = Does words t u (λ r. Taken G s.state.mem (s.state.reg 2) (s.state.reg 3) r.state.mem (r.state.reg 2) (r.state.reg 3) × Within G N (r.state.reg 3) × Keeps Low s r)

    -- or the fault, where the frontier is no block of the heap
    abbrev Attempt : Tree → Config → Type 0
    Attempt t u = Attempts words t u (n < N → ⊥) (λ r. Taken G s.state.mem (s.state.reg 2) (s.state.reg 3) r.state.mem (r.state.reg 2) (r.state.reg 3) × Within G N (r.state.reg 3) × Keeps Low s r)

    abbrev K : ℕ → List ℕ
    K = children (block_fields G.fields s.state.mem)

    -- (2) the lazy list's first block is taken for HEAP, and its fields are erased
    recycled : {live : List ℕ} (rest lazy : List ℕ) (w i : ℕ) → s.state.reg 3 ≡ block_address G i → i < N → headers G.fields s.state.mem (s.state.reg 2) ≡ 0 → s.state.mem (word_at G.fields i 0) ≢ 0
        → Invariant (L G) K (headers G.fields s.state.mem) (s.state.reg 2) (s.state.reg 3) n rest lazy live (K (s.state.reg 2) ++ roots)
        → Goal (seq (leaf (MOVIM 2 0 0) refl) (erase_fields G.fields)) (dropped (with_register (with_register (with_register s 2 w) 2 (s.state.reg 3)) 3 (s.state.mem (word_at G.fields i 0))))
    recycled (y ∷ ys) lazy w i is lt z nz q =
        let d : same y y ≡ 1 = same_self y in
        absurd (block_nonzero (L G) n y (omega (arith, q.parts y)) (sym q.linear_chain.1.0 ∙ z))
    recycled [] [] w i is lt z nz q = absurd (nz (sym (header_at G.fields s.state.mem i) ∙ ap (headers G.fields s.state.mem) (sym is ∙ q.lazy_chain) ∙ q.untouched n (omega arith)))
    recycled {live} [] (f ∷ ys) w i is lt z nz q =
        let u : Config = with_register (with_register (with_register s 2 w) 2 (s.state.reg 3)) 3 (s.state.mem (word_at G.fields i 0)) in
        let m : ℕ → ℕ = s.state.mem in
        let m₁ : ℕ → ℕ = upd m (word_at G.fields i 0) 0 in
        let e : s.state.reg 3 ≡ f = q.lazy_chain.0 in
        let q₁ : Invariant (L G) K (headers G.fields m) (s.state.reg 2) (s.state.reg 3) n [] (s.state.reg 3 ∷ ys) live (K (s.state.reg 2) ++ roots) = rw (← e) at q in
        let d : same (s.state.reg 3) (s.state.reg 3) ≡ 1 = same_self (s.state.reg 3) in
        let o = remove (s.state.reg 3) live (omega (arith, q₁.lazy_live (s.state.reg 3))) in
        let at₁ : headers G.fields m₁ (s.state.reg 3) ≡ 0 = rw is (head_same G m i 0) in
        let off : (b : ℕ) → b ≢ s.state.reg 3 → headers G.fields m₁ b ≡ headers G.fields m b = λ b x. head_off G m i 0 b (λ y. x (y ∙ sym is)) in
        let q₂ : Invariant (L G) K (headers G.fields m₁) (s.state.reg 3) (headers G.fields m (s.state.reg 3)) n [] ys (s.state.reg 2 ∷ o.0) (K (s.state.reg 3) ++ (s.state.reg 2 ∷ roots)) = acquire_lazy roots q₁ off at₁ o.1 in
        let h₃ : headers G.fields m (s.state.reg 3) ≡ m (word_at G.fields i 0) = rw is (header_at G.fields m i) in
        let f₃ : block_fields G.fields m₁ ≡ block_fields G.fields m = head_cells G m i 0 in
        let l₃ : block_fields G.fields m (s.state.reg 3) ≡ cells_from G.fields m i 0 G.fields = rw is (fields_at G.fields m i) in
        let k₃ : K (s.state.reg 3) ≡ pointers (cells_from G.fields m₁ i 0 G.fields) = ap pointers (l₃ ∙ sym (cells_agree G.fields m m₁ i 0 G.fields (λ y a b. head_fields G m i 0 i y (omega arith) (omega arith)))) in
        let q₃ : Invariant (L G) (children (block_fields G.fields m₁)) (headers G.fields m₁) (s.state.reg 3) (m (word_at G.fields i 0)) n [] ys (s.state.reg 2 ∷ o.0) (pointers (cells_from G.fields m₁ i 0 G.fields) ++ (s.state.reg 2 ∷ roots)) = rw (f₃, ← k₃, ← h₃) q₂ in
        let within : (h' : ℕ → ℕ) (free' : ℕ) → EraseAll (pointers (cells_from G.fields m₁ i 0 G.fields)) (headers G.fields m₁) (m (word_at G.fields i 0)) h' free' → Within G N free'
        = λ h' free' es. (let r = erase_pointers (s.state.reg 2 ∷ roots) es q₃ in let f = free_ok G r.0 r.1 in (f.0, omega (arith, f.1), f.2)) in
        go (block_MOVIM words (dropped u) v 2 i 0 0 is lt refl (omega arith) 0)
        (weaken (λ r g. (
          record {
            did = subst (λ x. Acquire (L G) K (headers G.fields m) (s.state.reg 2) (s.state.reg 3) (headers G.fields r.state.mem) x (r.state.reg 3)) (sym (keeps_register g.2 2 (omega arith) (omega arith))) (from_lazy z (λ x. nz (sym h₃ ∙ x)) at₁ off (rw (k₃, h₃) g.0));
            fields = λ x y a b. g.1 x y a b ∙ head_fields G m i 0 x y a b;
          },
          within _ _ g.0,
          keeps_trans (keeps_put 3 (m (word_at G.fields i 0)) (λ l x. x.2) (keeps_put 2 (s.state.reg 3) (λ l x. x.1) (keeps_put 2 w (λ l x. x.1) keeps_refl))) (keeps_sub (λ l x. (x.0, x.2)) g.2),
        ))
        (children_does words (s.state.reg 2 ∷ roots) (with_heap (dropped u) (word_at G.fields i 0) 0) i v is lt room (omega arith) q₃))

    -- HEAP's next block, whichever of the three it is
    next_does : {rest lazy live : List ℕ} (b : ℕ) → b ≢ 2 → s.state.reg b ≡ s.state.reg 2 → Invariant (L G) K (headers G.fields s.state.mem) (s.state.reg 2) (s.state.reg 3) n rest lazy live (K (s.state.reg 2) ++ roots) → Attempt (next_block G b) s
    next_does {rest} {lazy} {live} b nb eb q =
        let j = heap_ok_lem G q in
        let w : ℕ = s.state.mem (word_at G.fields j.0 0) in
        attempt_go (block_MOVL words s v 2 j.0 0 0 j.2 (omega (arith, j.1)) refl (omega arith) 2) (by j.0 j.2 (omega (arith, j.1)) (ℕ_discrete (s.state.mem (word_at G.fields j.0 0)) 0))
      where
        slow : (w i : ℕ) → s.state.reg 3 ≡ block_address G i → i < N → headers G.fields s.state.mem (s.state.reg 2) ≡ 0 → Dec (s.state.mem (word_at G.fields i 0) ≡ 0)
            → Goal (if_zero (CMPI 3 0) refl (seq (leaf (MOV 3 2) refl) (leaf (ADDI 3 (block_bytes G)) refl)) (seq (leaf (MOVIM 2 0 0) refl) (erase_fields G.fields))) (with_register (with_register (dropped (with_register s 2 w)) 2 (s.state.reg 3)) 3 (s.state.mem (word_at G.fields i 0)))
        slow w i is lt z (yes e) =
            if_yes (register_compared words (with_register (with_register (dropped (with_register s 2 w)) 2 (s.state.reg 3)) 3 (s.state.mem (word_at G.fields i 0))) 3 0) (eq-eqb (s.state.mem (word_at G.fields i 0)) 0 e)
            (go (register_MOV words (dropped (with_register (with_register (dropped (with_register s 2 w)) 2 (s.state.reg 3)) 3 (s.state.mem (word_at G.fields i 0)))) 3 2) (one (register_ADDI words (with_register (dropped (with_register (with_register (dropped (with_register s 2 w)) 2 (s.state.reg 3)) 3 (s.state.mem (word_at G.fields i 0)))) 3 (s.state.reg 3)) 3 (block_bytes G)) (
              record {
                did = from_frontier z (rw is (header_at G.fields s.state.mem i ∙ e)) refl (λ x y. rw is (bumped v.shape i (omega (arith, v.fits)) x (sym is ∙ y)));
                fields = λ x y a b. refl;
              },
              (suc i, omega arith, rw is (bumped v.shape i (omega (arith, v.fits)) i refl)),
              keeps_put 3 _ (λ l x. x.2) (keeps_put 3 _ (λ l x. x.2) (keeps_put 3 _ (λ l x. x.2) (keeps_put 2 _ (λ l x. x.1) (keeps_put 2 w (λ l x. x.1) keeps_refl)))),
            )))
        slow w i is lt z (no e) =
            if_no (register_compared words (with_register (with_register (dropped (with_register s 2 w)) 2 (s.state.reg 3)) 3 (s.state.mem (word_at G.fields i 0))) 3 0) (ne_eqb (s.state.mem (word_at G.fields i 0)) 0 e)
            (recycled rest lazy w i is lt z e q)

        by : (j : ℕ) → s.state.reg 2 ≡ block_address G j → j < N → Dec (s.state.mem (word_at G.fields j 0) ≡ 0) → Attempt (if_zero (CMPI 2 0) refl (next_lazy G) (leaf (MOVIM b 0 0) refl)) (with_register s 2 (s.state.mem (word_at G.fields j 0)))
        by j is lt (yes e) =
            let f = free_ok G lazy q in
            let w : ℕ = s.state.mem (word_at G.fields j 0) in
            attempt_yes (register_compared words (with_register s 2 w) 2 0) (eq-eqb w 0 e)
            (attempt_go (register_MOV words (dropped (with_register s 2 w)) 2 3) (lazily (dec_lt f.0 N)))
          where
            lazily : Dec ((free_ok G lazy q).0 < N) → Attempts words (seq (leaf (MOVL 3 3 0) refl) (if_zero (CMPI 3 0) refl (seq (leaf (MOV 3 2) refl) (leaf (ADDI 3 (block_bytes G)) refl)) (seq (leaf (MOVIM 2 0 0) refl) (erase_fields G.fields))))
                (with_register (dropped (with_register s 2 (s.state.mem (word_at G.fields j 0)))) 2 (s.state.reg 3)) (n < N → ⊥)
                (λ r. Taken G s.state.mem (s.state.reg 2) (s.state.reg 3) r.state.mem (r.state.reg 2) (r.state.reg 3) × Within G N (r.state.reg 3) × Keeps Low s r)
            lazily (yes l) =
                let f = free_ok G lazy q in
                let w : ℕ = s.state.mem (word_at G.fields j 0) in
                does (go (block_MOVL words (with_register (dropped (with_register s 2 w)) 2 (s.state.reg 3)) v 3 f.0 0 0 f.2 l refl (omega arith) 3)
                (slow w f.0 f.2 l (rw is (header_at G.fields s.state.mem j ∙ e)) (ℕ_discrete (s.state.mem (word_at G.fields f.0 0)) 0)))
            lazily (no l) =
                let f = free_ok G lazy q in
                let u : Config = with_register (dropped (with_register s 2 (s.state.mem (word_at G.fields j 0)))) 2 (s.state.reg 3) in
                faults u (rw (block_outside words u v 3 f.0 f.2 (omega arith) (omega (arith, f.1, v.fits)) 3)) (λ h. omega (arith, f.1))
        by j is lt (no e) =
            let w : ℕ = s.state.mem (word_at G.fields j 0) in
            let h₁ : headers G.fields s.state.mem (s.state.reg 2) ≡ w = rw is (header_at G.fields s.state.mem j) in
            let f = free_ok G lazy q in
            does (if_no (register_compared words (with_register s 2 w) 2 0) (ne_eqb w 0 e)
            (one (block_MOVIM words (dropped (with_register s 2 w)) v b j 0 0 (upd_other s.state.reg 2 w b nb ∙ eb ∙ is) lt refl (omega arith) 0) (
              record {
                did = subst (λ x. Acquire (L G) K (headers G.fields s.state.mem) (s.state.reg 2) (s.state.reg 3) (headers G.fields (upd s.state.mem (word_at G.fields j 0) 0)) x (s.state.reg 3)) h₁
                    (from_linear (λ z. e (sym h₁ ∙ z)) (rw is (head_same G s.state.mem j 0)) (λ c d. head_off G s.state.mem j 0 c (λ y. d (y ∙ sym is))));
                fields = head_fields G s.state.mem j 0;
              },
              (f.0, omega (arith, f.1), f.2),
              keeps_put 2 w (λ l x. x.1) keeps_refl,
            )))

  -- a block taken into a location
  pub acquire_attempts : {N n : ℕ} {rest lazy live : List ℕ} (roots : List ℕ) (s : Config) (l : ℕ) → Placed G N s → n ≤ N → length roots ≤ 1048559 → 4 ≤ l → l < operands G
      → Invariant (L G) (children (block_fields G.fields s.state.mem)) (headers G.fields s.state.mem) (s.state.reg 2) (s.state.reg 3) n rest lazy live (children (block_fields G.fields s.state.mem) (s.state.reg 2) ++ roots)
      → Attempts words (acquire_block G l) s (n < N → ⊥)
      (λ r. (held r l ≡ s.state.reg 2) × Taken G s.state.mem (s.state.reg 2) (s.state.reg 3) r.state.mem (r.state.reg 2) (r.state.reg 3) × Within G N (r.state.reg 3) × Keeps (λ x. Low x × (x ≢ l)) s r)
  acquire_attempts {N} {n} {rest} {lazy} {live} roots s l v room few a b q =
      attempt_then (does (take_does s l v a b)) (λ r g.
      let e : r.state.mem ≡ s.state.mem = g.2 in
      let e2 : r.state.reg 2 ≡ s.state.reg 2 = keeps_register g.3 2 (omega arith) (omega arith) in
      let e3 : r.state.reg 3 ≡ s.state.reg 3 = keeps_register g.3 3 (omega arith) (omega arith) in
      let q₁ : Invariant (L G) (children (block_fields G.fields r.state.mem)) (headers G.fields r.state.mem) (r.state.reg 2) (r.state.reg 3) n rest lazy live (children (block_fields G.fields r.state.mem) (r.state.reg 2) ++ roots) = rw (e, e2, e3) q in
      attempt_weaken (λ t d. (d.2.kept l (omega arith) ∙ g.0, rw (e, e2, e3) at d.0, d.1, keeps_trans (keeps_sub (λ x y. (y.0.0, y.1)) g.3) (keeps_sub (λ x y. y.0) d.2)))
      (next_does roots r (placed_keeps (omega arith) g.3 v) room few (register_for l) (low (ltb l 16) refl) (g.1 ∙ sym e2) q₁))
    where
      low : (c : Bool) → ltb l 16 ≡ c → cond c l TEMP ≢ 2
      low true e = omega arith
      low false e = omega arith
