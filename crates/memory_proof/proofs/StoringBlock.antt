-- HEAP's block written whole and taken is the abstract heap's store of a block.
use mathlib.Core.Bool.{Bool}
use mathlib.Core.List.{List, [], ◌∷◌, ◌++◌}
use mathlib.Core.Logic.{◌≢◌}
use mathlib.Core.Path.{◌≡◌, refl, sym, ◌∙◌, ap}
use Prim.Native.Nat.{ℕ, zero, suc, ◌+◌, ◌-◌, ◌*◌, ◌≤◌, ◌<◌}
use native.Mathlib.Omega.{arith}
use lib.ListN.{length}
use Rattle.trees.specs.Tree.{Tree, seq}
use Rattle.layout.specs.declared.config.Shape.{Shape}
use Rattle.layout.specs.Config.{Supported, block_words, link_word, operands}
use Rattle.machine_step.specs.Step.{Config}
use Rattle.machine_step.specs.View.{upd}
use Rattle.memory.specs.Blocks.{acquire_block}
use Rattle.heap.specs.Blocks.{Cell, pointers, children}
use Rattle.heap.specs.Counting.{occ}
use Rattle.heap.proofs.CountingLemmas.{same_other, occ_append, occ_pointers}
use Rattle.heap.proofs.Invariant.{Invariant, Consistent}
use Rattle.heap.proofs.OperationLemmas.{same_roots, write_head}
use Rattle.heap.specs.Operations.{StoreBlock}
use Rattle.heap.specs.Values.{NoPointers}
use Rattle.heap.proofs.WordLemmas.{places_distinct, fields_at, cells_append, header_all, fields_all, fields_off}
use Rattle.heap.specs.Words.{word_at, headers, cells_from, block_fields}
use Rattle.layout_proof.specs.Held.{held, Keeps, Placed}
use Rattle.layout_proof.proofs.Operands.{block_address}
use Rattle.layout_proof.proofs.HeldLemmas.{upd_same, upd_other, keeps_trans, keeps_sub, keeps_register, placed_keeps}
use Rattle.layout_proof.proofs.Runs.{Does}
use Rattle.memory_proof.proofs.Attempting.{Attempts, does, attempt_then, attempt_weaken}
use Rattle.memory_proof.proofs.Acquiring.{Low, Within, acquire_attempts}
use Rattle.memory_proof.proofs.Shown.{L, heap_of}
use Rattle.memory_proof.proofs.Storing.{Filled}
use Rattle.memory_proof.proofs.Variables.{variables}

-- the block at `heap` has unused fields and then c, and nothing else changes
pub record BlockWritten (G : Shape) (heap : ℕ) (m : ℕ → ℕ) (c : List Cell) (m' : ℕ → ℕ) : Type 0 where
  pub unused : List Cell
  pub no_pointers : NoPointers unused
  pub written : block_fields G.fields m' heap ≡ unused ++ c
  pub elsewhere : (b : ℕ) → b ≢ heap → block_fields G.fields m' b ≡ block_fields G.fields m b
  pub heads : headers G.fields m' ≡ headers G.fields m

cells_nulls : (G : Shape) (m : ℕ → ℕ) (j t n : ℕ) → ((y : ℕ) → t ≤ y → y < t + n → m (word_at G.fields j (2 + 2 * y)) ≡ 0) → NoPointers (cells_from G.fields m j t n)
unfolding cells_from
cells_nulls G m j t zero f b nz = refl
cells_nulls G m j t (suc n) f b nz =
    let z : m (word_at G.fields j (2 + 2 * t)) ≡ 0 = f t (omega arith) (omega arith) in
    omega (arith, same_other {a = b} {b = m (word_at G.fields j (2 + 2 * t))} (λ q. nz (q ∙ z)), cells_nulls G m j (suc t) n (λ y a c. f y (omega arith) (omega arith)) b nz)

module _ {G : Shape} (few : Supported G) (ext : ℕ → Bool) where
  -- the last block of an object
  pub filled_last : (s : Config) (v k j : ℕ) (m : ℕ → ℕ) → k ≤ G.fields → s.state.reg 2 ≡ block_address G j → Filled G ext s v k G.fields j m → BlockWritten G (s.state.reg 2) s.state.mem (variables ext s v k) m
  filled_last s v k j m h p f =
      let n : G.fields ≡ (G.fields - k) + k = omega arith in
      let z : 0 + (G.fields - k) ≡ G.fields - k = omega arith in
      record {
        unused = cells_from G.fields m j 0 (G.fields - k);
        no_pointers = cells_nulls G m j 0 (G.fields - k) (λ y a b. f.zeros y (omega arith));
        written = rw (p, fields_at G.fields m j) (ap (cells_from G.fields m j 0) n ∙ cells_append G.fields m j 0 (G.fields - k) k ∙ rw (z, f.vals));
        elsewhere = λ b ne. fields_off G.fields s.state.mem m j (λ x w d l. f.only x w l (λ c. d c.0)) b (λ q. ne (q ∙ sym p));
        heads = header_all G.fields s.state.mem m (λ x. f.only x 0 (omega arith) (λ c. omega (arith, c.1)));
      }

  -- another block: the link in its last field
  pub filled_other : (s r : Config) (v k j : ℕ) (m : ℕ → ℕ) (q : ℕ) → k ≤ G.fields - 1 → s.state.reg 2 ≡ block_address G j → r.state.mem ≡ upd s.state.mem (word_at G.fields j (link_word G)) q → variables ext r v k ≡ variables ext s v k → Filled G ext r v k (G.fields - 1) j m
      → BlockWritten G (s.state.reg 2) s.state.mem (variables ext s v k ++ (record { fst = q; snd = s.state.mem (word_at G.fields j (3 + 2 * (G.fields - 1))) } ∷ [])) m
  unfolding cells_from
  filled_other s r v k j m q h p e vs f =
      let n : G.fields ≡ (G.fields - 1 - k) + (k + 1) = omega (arith, few.some) in
      let z : 0 + (G.fields - 1 - k) ≡ G.fields - 1 - k = omega arith in
      let z₂ : G.fields - 1 - k + k ≡ G.fields - 1 = omega arith in
      let o : (x w : ℕ) → w < block_words G → ((x ≡ j) × (2 ≤ w) → ⊥) → m (word_at G.fields x w) ≡ s.state.mem (word_at G.fields x w)
      = λ x w a b. f.only x w a (λ c. b (c.0, omega (arith, c.1))) ∙ rw e (upd_other s.state.mem (word_at G.fields j (link_word G)) q (word_at G.fields x w) (λ y. let d = places_distinct G.fields x j w (link_word G) a (omega (arith, few.some)) y in b (d.0, omega (arith, d.1)))) in
      let at₆ : m (word_at G.fields j (link_word G)) ≡ q = f.only j (link_word G) (omega (arith, few.some)) (λ c. omega (arith, c.2)) ∙ rw e (upd_same s.state.mem (word_at G.fields j (link_word G)) q) in
      let at₇ : m (word_at G.fields j (3 + 2 * (G.fields - 1))) ≡ s.state.mem (word_at G.fields j (3 + 2 * (G.fields - 1))) = f.only j (3 + 2 * (G.fields - 1)) (omega (arith, few.some)) (λ c. omega (arith, c.2)) ∙ rw e (upd_other s.state.mem (word_at G.fields j (link_word G)) q (word_at G.fields j (3 + 2 * (G.fields - 1))) (omega arith)) in
      let l : Cell = record { fst = q; snd = s.state.mem (word_at G.fields j (3 + 2 * (G.fields - 1))) } in
      let end : cells_from G.fields m j (G.fields - 1 - k + k) 1 ≡ l ∷ [] = rw (z₂, at₆, at₇) in
      record {
        unused = cells_from G.fields m j 0 (G.fields - 1 - k);
        no_pointers = cells_nulls G m j 0 (G.fields - 1 - k) (λ y a b. f.zeros y (omega arith));
        written = rw (p, fields_at G.fields m j) (ap (cells_from G.fields m j 0) n ∙ cells_append G.fields m j 0 (G.fields - 1 - k) (k + 1) ∙ rw (z, cells_append G.fields m j (G.fields - 1 - k) k 1, f.vals, vs, end));
        elsewhere = λ b ne. fields_off G.fields s.state.mem m j (λ x w d a. o x w a (λ c. d c.0)) b (λ y. ne (y ∙ sym p));
        heads = header_all G.fields s.state.mem m (λ x. o x 0 (omega arith) (λ c. omega (arith, c.1)));
      }

module _ {G : Shape} (words : ℕ → ℕ) where
  pub store_block : {N n : ℕ} {i : ℕ → ℕ} {roots₀ : List ℕ} {t : Tree} (roots : List ℕ) (s : Config) (l : ℕ) (c : List Cell) → Placed G N s → n ≤ N → length roots ≤ 1048559 → 4 ≤ l → l < operands G
      → Consistent (L G) (heap_of G s) i n roots₀ → ((b : ℕ) → b ≢ 0 → occ b (pointers c) + occ b roots ≡ occ b roots₀)
      → Does words t s (λ r. BlockWritten G (s.state.reg 2) s.state.mem c r.state.mem × Keeps (λ x. x ≢ 1) s r)
      → Attempts words (seq t (acquire_block G l)) s (n < N → ⊥)
      (λ r. (unused : List Cell) × NoPointers unused × StoreBlock (L G) (heap_of G s) (unused ++ c) (heap_of G r) × (held r l ≡ s.state.reg 2) × Within G N (r.state.reg 3) × Keeps (λ x. Low x × (x ≢ l)) s r)
  store_block {n = n} {roots₀ = roots₀} roots s l c v room few a b g e d =
      attempt_then (does d) (λ r f.
      let y : BlockWritten G (s.state.reg 2) s.state.mem c r.state.mem = f.0 in
      let e2 : r.state.reg 2 ≡ s.state.reg 2 = keeps_register f.1 2 (omega arith) (omega arith) in
      let e3 : r.state.reg 3 ≡ s.state.reg 3 = keeps_register f.1 3 (omega arith) (omega arith) in
      let q : Invariant (L G) (children (block_fields G.fields r.state.mem)) (headers G.fields s.state.mem) (s.state.reg 2) (s.state.reg 3) n g.linear_rest g.lazy g.live (children (block_fields G.fields r.state.mem) (s.state.reg 2) ++ roots)
      = same_roots (λ x nz. rw y.written (omega (arith, occ_append x (pointers (y.unused ++ c)) roots, occ_pointers x y.unused c, y.no_pointers x nz, e x nz))) (write_head (children (block_fields G.fields r.state.mem)) (λ x ne. ap pointers (y.elsewhere x ne)) g.invariant) in
      let q₁ : Invariant (L G) (children (block_fields G.fields r.state.mem)) (headers G.fields r.state.mem) (r.state.reg 2) (r.state.reg 3) n g.linear_rest g.lazy g.live (children (block_fields G.fields r.state.mem) (r.state.reg 2) ++ roots) = rw (y.heads, e2, e3) q in
      attempt_weaken (λ u k.
      let ft : block_fields G.fields u.state.mem ≡ block_fields G.fields r.state.mem = fields_all G.fields r.state.mem u.state.mem k.1.fields in (
        y.unused,
        y.no_pointers,
        record { written = rw ft y.written; elsewhere = λ x ne. rw ft (y.elsewhere x ne); acquired = rw (← ft, y.heads, e2, e3) at k.1.did },
        k.0 ∙ e2,
        k.2,
        keeps_trans (keeps_sub (λ x z. z.0.0) f.1) k.3,
      ))
      (acquire_attempts words roots r l (placed_keeps (omega arith) f.1 v) room few a b q₁))
