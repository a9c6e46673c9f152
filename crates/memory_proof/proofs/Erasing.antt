-- Erasing a pointer does the abstract heap's erase, and so for the children of HEAP's block.
use mathlib.Core.List.{List, ◌∷◌, ◌++◌}
use mathlib.Core.Logic.{◌≢◌, ◌⊎◌, inl, inr}
use mathlib.Core.Path.{◌≡◌, refl, sym, ◌∙◌, ap}
use Prim.Native.Nat.{ℕ, zero, suc, ◌+◌, ◌*◌, ◌≤◌, ◌<◌}
use native.Mathlib.Decide.{ℕ_discrete}
use native.Mathlib.Nat.{mul-le-mul_right, zero-add}
use native.Mathlib.Omega.{arith}
use lib.ListN.{length, length-append}
use borrow.Author.Tests.{eq-eqb, ne_eqb}
use Rattle.records.specs.declared.code.Code.TheVariants.{ADDIM, MOV, MOVS, MOVL, CMPIM}
use Rattle.word.specs.Words.{sum}
use Rattle.trees.specs.Tree.{Tree, nop, leaf, seq, if_zero}
use Rattle.layout.specs.declared.config.Shape.{Shape}
use Rattle.layout.specs.Config.{Supported, fst_offset}
use Rattle.machine_step.specs.Step.{Config, dropped}
use Rattle.machine_step.specs.View.{upd}
use Rattle.trees_proof.specs.Evaluation.{evaluate}
use Rattle.memory.specs.Blocks.{erase_register, erase_child, erase_fields}
use Rattle.heap.proofs.BlockLemmas.{block_number_lem}
use Rattle.heap.specs.Blocks.{pointers, children}
use Rattle.heap.specs.Counting.{occ, refs}
use Rattle.heap.proofs.CountingLemmas.{same_self, occ_length, refs_length}
use Rattle.heap.proofs.Invariant.{Invariant}
use Rattle.heap.proofs.OperationLemmas.{named_held, erase_pointer}
use Rattle.heap.specs.Operations.{Erase, null, last_pointer, one_less, EraseAll, none, more}
use Rattle.heap.proofs.WordLemmas.{header_at, fields_at, cells_agree, fields_all}
use Rattle.heap.specs.Words.{word_at, headers, cells_from, block_fields}
use Rattle.layout_proof.specs.Held.{Keeps, Placed}
use Rattle.layout_proof.proofs.Operands.{with_register, with_heap, block_address}
use Rattle.layout_proof.proofs.HeldLemmas.{keeps_refl, keeps_trans, keeps_sub, keeps_put, keeps_register, placed_keeps}
use Rattle.layout_proof.proofs.RecordLemmas.{register_MOV, register_compared, block_MOVL, block_MOVS, block_ADDIM, block_compared}
use Rattle.layout_proof.proofs.Runs.{Does, one, then, go, weaken, skip_yes, skip_no, if_yes, if_no}
use Rattle.memory_proof.proofs.Shown.{L, SameFields, head_same, head_off, head_fields, cells_pointers, minus_one, nothing_after, grouped, alike}

-- a block of the heap, whose count is far from 2^64
pub record Block (G : Shape) (N : ℕ) (m : ℕ → ℕ) (p : ℕ) : Type 0 where
  pub number : ℕ
  pub address : p ≡ block_address G number
  pub inside : number < N
  pub small : m (word_at G.fields number 0) < 4294967296

-- a pointer that the code may follow
abbrev pub Pointer : Shape → ℕ → (ℕ → ℕ) → ℕ → Type 0
Pointer G N m p = (p ≡ 0) ⊎ Block G N m p

-- the pointer p erased
pub record Erased (G : Shape) (p : ℕ) (m : ℕ → ℕ) (free : ℕ) (m' : ℕ → ℕ) (free' : ℕ) : Type 0 where
  pub did : Erase p (headers G.fields m) free (headers G.fields m') free'
  pub fields : SameFields G m m'

-- pointers in so many blocks
pub most_named : (f n : ℕ) → f ≤ 7 → f * n ≤ 7 * n
most_named f n h = mul-le-mul_right n h

-- ---- what the invariant says of a pointer

module _ {G : Shape} {N n : ℕ} {m : ℕ → ℕ} {heap free : ℕ} {rest lazy live roots : List ℕ} where
  pub root_pointer : (p : ℕ) → Supported G → n ≤ N → N ≤ 1048576 → length roots ≤ 1048576 → Invariant (L G) (children (block_fields G.fields m)) (headers G.fields m) heap free n rest lazy live (p ∷ roots) → Pointer G N m p
  root_pointer p z h g o v = by (ℕ_discrete p 0)
    where
      by : Dec (p ≡ 0) → Pointer G N m p
      by (yes z) = inl z
      by (no nz) =
          let y = named_held p nz (omega (arith, same_self p)) v in
          let r = block_number_lem (L G) n p (omega (arith, v.parts p, y.is_live)) in
          let q : refs (children (block_fields G.fields m)) p live ≤ G.fields * length live = refs_length (children (block_fields G.fields m)) G.fields p live (λ x d. size x d) in
          inr (record { number = r.0; address = r.2; inside = omega (arith, r.1); small = rw (← (header_at G.fields m r.0), ← r.2) (omega (arith, occ_length p (p ∷ roots), y.count, v.size, most_named G.fields (length live) z.few)) })
        where
          size : (x : ℕ) → occ x live ≢ 0 → length (children (block_fields G.fields m) x) ≤ G.fields
          size x d = let e = block_number_lem (L G) n x (omega (arith, v.parts x)) in rw (e.2, fields_at G.fields m e.0) (omega (arith, cells_pointers G m e.0 0 G.fields))

-- children t and on of HEAP's block, n of them
abbrev erase_rest : ℕ → ℕ → Tree
erase_rest t zero = nop
erase_rest t (suc n) = seq (erase_child t) (erase_rest (suc t) n)

module _ (words : ℕ → ℕ) where
  -- the first t children and then n more
  joined : (t n : ℕ) (c : Config) → evaluate words (seq (erase_fields t) (erase_rest t n)) c ≡ evaluate words (erase_fields (t + n)) c
  joined t zero c = let e : t + 0 ≡ t = omega arith in rw e (nothing_after words (erase_fields t) c)
  joined t (suc n) c = let e : t + suc n ≡ suc t + n = omega arith in rw e (grouped words (erase_fields t) (erase_child t) (erase_rest (suc t) n) c ∙ joined (suc t) n c)

module _ {G : Shape} (words : ℕ → ℕ) where
  pub erase_does : {N : ℕ} (s : Config) (r : ℕ) → Placed G N s → r ≢ 3 → Pointer G N s.state.mem (s.state.reg r)
      → Does words (erase_register r) s (λ t. Erased G (s.state.reg r) s.state.mem (s.state.reg 3) t.state.mem (t.state.reg 3) × Keeps (λ l. l ≢ 3) s t)
  erase_does s r v n (inl z) =
      skip_yes (register_compared words s r 0) (eq-eqb (s.state.reg r) 0 z) (record { did = null z refl; fields = λ x w a b. refl }, keeps_refl)
  erase_does s r v n (inr b) = skip_no (register_compared words s r 0) (ne_eqb (s.state.reg r) 0 nz) (by (ℕ_discrete (s.state.mem (word_at G.fields b.number 0)) 0))
    where
      nz : s.state.reg r ≢ 0
      nz z = omega (arith, b.address)

      off : (x y : ℕ) → x ≢ s.state.reg r → headers G.fields (upd s.state.mem (word_at G.fields b.number 0) y) x ≡ headers G.fields s.state.mem x
      off x y d = head_off G s.state.mem b.number y x (λ q. d (q ∙ sym b.address))

      by : Dec (s.state.mem (word_at G.fields b.number 0) ≡ 0) → Does words (if_zero (CMPIM r 0 0) refl (seq (leaf (MOVS 3 r 0) refl) (leaf (MOV 3 r) refl)) (leaf (ADDIM r 0 18446744073709551615) refl)) (dropped s)
          (λ t. Erased G (s.state.reg r) s.state.mem (s.state.reg 3) t.state.mem (t.state.reg 3) × Keeps (λ l. l ≢ 3) s t)
      by (yes e) =
          if_yes (block_compared words (dropped s) v r b.number 0 0 b.address b.inside refl (omega arith) 0) (eq-eqb (s.state.mem (word_at G.fields b.number 0)) 0 e)
          (go (block_MOVS words (dropped s) v r b.number 0 0 b.address b.inside refl (omega arith) 3)
          (one (register_MOV words (with_heap (dropped s) (word_at G.fields b.number 0) (s.state.reg 3)) 3 r) (
            record {
              did = last_pointer nz (rw b.address (header_at G.fields s.state.mem b.number ∙ e)) (rw b.address (head_same G s.state.mem b.number (s.state.reg 3))) (λ x d. off x (s.state.reg 3) d);
              fields = head_fields G s.state.mem b.number (s.state.reg 3);
            },
            keeps_put 3 (s.state.reg r) (λ l d. d) keeps_refl,
          )))
      by (no e) =
          let y : ℕ = sum (s.state.mem (word_at G.fields b.number 0)) 18446744073709551615 in
          let w : suc y ≡ s.state.mem (word_at G.fields b.number 0) = minus_one (s.state.mem (word_at G.fields b.number 0)) e (omega (arith, b.small)) in
          if_no (block_compared words (dropped s) v r b.number 0 0 b.address b.inside refl (omega arith) 0) (ne_eqb (s.state.mem (word_at G.fields b.number 0)) 0 e)
          (one (block_ADDIM words (dropped s) v r b.number 0 0 b.address b.inside refl (omega arith) 18446744073709551615) (
            record {
              did = one_less nz (rw b.address (ap suc (head_same G s.state.mem b.number y) ∙ w ∙ sym (header_at G.fields s.state.mem b.number))) (λ x d. off x y d);
              fields = head_fields G s.state.mem b.number y;
            },
            keeps_refl,
          ))

  rest_does : {N n heap : ℕ} {rest lazy live : List ℕ} (roots : List ℕ) (s : Config) (j t k : ℕ) → Placed G N s → s.state.reg 2 ≡ block_address G j → j < N → n ≤ N → length roots ≤ 1048560 → t + k ≤ G.fields
      → Invariant (L G) (children (block_fields G.fields s.state.mem)) (headers G.fields s.state.mem) heap (s.state.reg 3) n rest lazy live (pointers (cells_from G.fields s.state.mem j t k) ++ roots)
      → Does words (erase_rest t k) s (λ r. EraseAll (pointers (cells_from G.fields s.state.mem j t k)) (headers G.fields s.state.mem) (s.state.reg 3) (headers G.fields r.state.mem) (r.state.reg 3) × SameFields G s.state.mem r.state.mem × Keeps (λ l. (l ≢ 1) × (l ≢ 3)) s r)
  unfolding cells_from
  rest_does roots s j t zero v p h g o q i = one refl (none, (λ x w a b. refl), keeps_refl)
  rest_does {N} {n} {heap} {rest} {lazy} {live} roots s j t (suc k) v p h g o q i =
      let c : ℕ = s.state.mem (word_at G.fields j (2 + 2 * t)) in
      let u : Config = with_register s 1 c in
      let first : Does words (seq (leaf (MOVL 1 2 (fst_offset t)) refl) (erase_register 1)) s (λ r. Erased G c s.state.mem (s.state.reg 3) r.state.mem (r.state.reg 3) × Keeps (λ l. l ≢ 3) u r)
      = go (block_MOVL words s v 2 j (fst_offset t) (2 + 2 * t) p h (omega arith) (omega arith) 1) (erase_does u 1 v (omega arith) (root_pointer c v.shape g v.fits (omega (arith, length-append (pointers (cells_from G.fields s.state.mem j (suc t) k)) roots, cells_pointers G s.state.mem j (suc t) k)) i)) in
      then first (λ r e.
      let w : SameFields G s.state.mem r.state.mem = e.0.fields in
      let agree : cells_from G.fields r.state.mem j (suc t) k ≡ cells_from G.fields s.state.mem j (suc t) k = cells_agree G.fields s.state.mem r.state.mem j (suc t) k (λ y a b. w j y (omega arith) (omega arith)) in
      let kp : Keeps (λ l. (l ≢ 1) × (l ≢ 3)) s r = keeps_trans (keeps_put 1 c (λ l d. d.0) keeps_refl) (keeps_sub (λ l d. d.1) e.1) in
      let i₁ = erase_pointer e.0.did i in
      let i₂ : Invariant (L G) (children (block_fields G.fields r.state.mem)) (headers G.fields r.state.mem) heap (r.state.reg 3) n rest i₁.0 live (pointers (cells_from G.fields r.state.mem j (suc t) k) ++ roots) = rw (fields_all G.fields s.state.mem r.state.mem w, agree) i₁.1 in
      weaken (λ z d. (rw agree at (more e.0.did d.0), (λ x y a b. d.1 x y a b ∙ w x y a b), keeps_trans kp d.2))
      (rest_does {lazy = i₁.0} roots r j (suc t) k (placed_keeps (omega arith) kp v) (keeps_register e.1 2 (omega arith) (omega arith) ∙ p) h g o (omega arith) i₂))

  pub children_does : {N n heap : ℕ} {rest lazy live : List ℕ} (roots : List ℕ) (s : Config) (j : ℕ) → Placed G N s → s.state.reg 2 ≡ block_address G j → j < N → n ≤ N → length roots ≤ 1048560
      → Invariant (L G) (children (block_fields G.fields s.state.mem)) (headers G.fields s.state.mem) heap (s.state.reg 3) n rest lazy live (pointers (cells_from G.fields s.state.mem j 0 G.fields) ++ roots)
      → Does words (erase_fields G.fields) s
      (λ r. EraseAll (pointers (cells_from G.fields s.state.mem j 0 G.fields)) (headers G.fields s.state.mem) (s.state.reg 3) (headers G.fields r.state.mem) (r.state.reg 3) × SameFields G s.state.mem r.state.mem × Keeps (λ l. (l ≢ 1) × (l ≢ 3)) s r)
  children_does roots s j v p h g o i =
      let d = rest_does roots s j 0 G.fields v p h g o (omega arith) i in
      alike (sym (joined words 0 G.fields s ∙ ap (λ (n : ℕ). evaluate words (erase_fields n) s) (zero-add G.fields))) d
