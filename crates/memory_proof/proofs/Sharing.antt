-- Sharing a pointer adds to its block's count, in a register or in a spill.
use mathlib.Core.Bool.{Bool, true, false, cond}
use mathlib.Core.List.{List}
use mathlib.Core.Logic.{◌≢◌}
use mathlib.Core.Path.{◌≡◌, refl, sym, ◌∙◌}
use Prim.Native.Nat.{ℕ, ◌+◌, ◌≤◌, ◌<◌}
use native.Mathlib.Decide.{ℕ_discrete}
use native.Mathlib.Omega.{arith}
use lib.Dec.{ltb}
use lib.ListN.{replicate}
use borrow.Author.Tests.{eq-eqb, ne_eqb, ltb-true, ltb-false}
use Rattle.records.specs.declared.code.Code.TheVariants.{ADDIM, MOVL, CMPIM}
use Rattle.word.specs.Words.{sum}
use Rattle.trees.specs.Tree.{leaf, seq, skip_if_zero}
use Rattle.layout.specs.declared.config.Shape.{Shape}
use Rattle.layout.specs.Config.{operands, stack_offset}
use Rattle.machine_step.specs.Step.{Config, dropped}
use Rattle.machine_step.specs.View.{upd}
use Rattle.memory.specs.Blocks.{share_register, share_block}
use Rattle.heap.specs.Counting.{occ}
use Rattle.heap.proofs.CountingLemmas.{split, occ_replicate, occ_replicate_other}
use Rattle.heap.proofs.WordLemmas.{header_at}
use Rattle.heap.specs.Words.{word_at, headers}
use Rattle.layout_proof.specs.Held.{held, Keeps, Placed}
use Rattle.layout_proof.proofs.Operands.{with_register, block_address}
use Rattle.layout_proof.proofs.HeldLemmas.{held_register, keeps_refl, keeps_sub, keeps_put}
use Rattle.layout_proof.proofs.RecordLemmas.{register_compared, block_ADDIM, spill_MOVL, spill_compared}
use Rattle.layout_proof.proofs.Runs.{Does, one, go, so, skip_yes, skip_no}
use Rattle.memory_proof.proofs.Shown.{SameFields, head_same, head_off, head_fields}

-- a pointer whose count has room for n more
abbrev pub Shareable : Shape → ℕ → (ℕ → ℕ) → ℕ → ℕ → Type 0
Shareable G N m n p = (p ≢ 0) → (i : ℕ) × (i < N) × (p ≡ block_address G i) × (m (word_at G.fields i 0) + n < 18446744073709551616)

-- the pointers ps are counted, and no field changes
pub record Counts (G : Shape) (ps : List ℕ) (m m' : ℕ → ℕ) : Type 0 where
  pub fields : SameFields G m m'
  pub counts : (b : ℕ) → b ≢ 0 → headers G.fields m' b ≡ headers G.fields m b + occ b ps

plus : (x n : ℕ) → x + n < 18446744073709551616 → sum x n ≡ x + n
unfolding sum
plus x n h = omega arith

added : {G : Shape} (m : ℕ → ℕ) (p i n : ℕ) → p ≡ block_address G i → m (word_at G.fields i 0) + n < 18446744073709551616 → Counts G (replicate n p) m (upd m (word_at G.fields i 0) (sum (m (word_at G.fields i 0)) n))
added {G} m p i n is h =
    let y : ℕ = sum (m (word_at G.fields i 0)) n in
    record {
      fields = head_fields G m i y;
      counts = split p
          (λ nz. rw is (omega (arith, head_same G m i y, plus (m (word_at G.fields i 0)) n h, header_at G.fields m i, occ_replicate n (block_address G i))))
          (λ b d nz. omega (arith, head_off G m i y b (λ q. d (q ∙ sym is)), occ_replicate_other n p b d));
    }

module _ {G : Shape} (words : ℕ → ℕ) where
  pub share_does : {N : ℕ} (s : Config) (r n : ℕ) → Placed G N s → Shareable G N s.state.mem n (s.state.reg r)
      → Does words (share_register r n) s (λ t. Counts G (replicate n (s.state.reg r)) s.state.mem t.state.mem × Keeps (λ l. Unit {0}) s t)
  share_does s r n v f = by (ℕ_discrete (s.state.reg r) 0)
    where
      by : Dec (s.state.reg r ≡ 0) → Does words (share_register r n) s (λ t. Counts G (replicate n (s.state.reg r)) s.state.mem t.state.mem × Keeps (λ l. Unit {0}) s t)
      by (yes z) = skip_yes (register_compared words s r 0) (eq-eqb (s.state.reg r) 0 z)
          (record { fields = λ x w a b. refl; counts = λ b nz. omega (arith, occ_replicate_other n (s.state.reg r) b (λ q. nz (q ∙ z))) }, keeps_refl)
      by (no z) =
          let g = f z in
          let i : ℕ = g.0 in
          skip_no (register_compared words s r 0) (ne_eqb (s.state.reg r) 0 z)
          (one (block_ADDIM words (dropped s) v r i 0 0 g.2 g.1 refl (omega arith) n) (added s.state.mem (s.state.reg r) i n g.2 g.3, keeps_refl))

  -- share_block_n at an operand
  pub share_at : {N : ℕ} (s : Config) (l n : ℕ) → Placed G N s → 4 ≤ l → l < operands G → Shareable G N s.state.mem n (held s l) → Does words (share_block G l n) s (λ t. Counts G (replicate n (held s l)) s.state.mem t.state.mem × Keeps (λ x. x ≢ 1) s t)
  share_at {N} s l n v a b f = by (ltb l 16) refl
    where
      by : (c : Bool) → ltb l 16 ≡ c → Does words (cond c (share_register l n) (skip_if_zero (CMPIM 0 (stack_offset G l) 0) refl (seq (leaf (MOVL 1 0 (stack_offset G l)) refl) (leaf (ADDIM 1 0 n) refl)))) s (λ t. Counts G (replicate n (held s l)) s.state.mem t.state.mem × Keeps (λ x. x ≢ 1) s t)
      by true q =
          let e : held s l ≡ s.state.reg l = held_register s.state.reg s.state.stk l (ltb-true l 16 q) in
          so (share_does s l n v (rw (← e) f)) (λ t x. (rw e x.0, keeps_sub (λ y d. tt) x.1))
      by false q = at (ltb-false l 16 q) (ℕ_discrete (held s l) 0)
        where
          at : 16 ≤ l → Dec (held s l ≡ 0) → Does words (skip_if_zero (CMPIM 0 (stack_offset G l) 0) refl (seq (leaf (MOVL 1 0 (stack_offset G l)) refl) (leaf (ADDIM 1 0 n) refl))) s (λ t. Counts G (replicate n (held s l)) s.state.mem t.state.mem × Keeps (λ x. x ≢ 1) s t)
          at h (yes z) = skip_yes (spill_compared words s v l h b 0) (eq-eqb (held s l) 0 z) (record { fields = λ x y c d. refl; counts = λ c nz. omega (arith, occ_replicate_other n (held s l) c (λ e. nz (e ∙ z))) }, keeps_refl)
          at h (no z) =
              let g = f z in
              skip_no (spill_compared words s v l h b 0) (ne_eqb (held s l) 0 z)
              (go (spill_MOVL words (dropped s) v l h b 1) (one (block_ADDIM words (with_register (dropped s) 1 (held s l)) v 1 g.0 0 0 g.2 g.1 refl (omega arith) n)
              (added s.state.mem (held s l) g.0 n g.2 g.3, keeps_put 1 (held s l) (λ x d. d) keeps_refl)))
