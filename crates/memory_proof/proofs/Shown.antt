-- The abstract heap that a configuration's words show, for blocks of any number of fields, and what the change of one word leaves of it.
use mathlib.Core.List.{List}
use mathlib.Core.Logic.{◌≢◌}
use mathlib.Core.Path.{◌≡◌, refl, ◌∙◌}
use Prim.Native.Nat.{ℕ, suc, ◌≤◌, ◌<◌}
use native.Mathlib.Omega.{arith}
use lib.ListN.{length}
use Rattle.word.specs.Words.{sum}
use Rattle.trees.specs.Tree.{Tree, nop, seq}
use Rattle.layout.specs.declared.config.Shape.{Shape}
use Rattle.layout.specs.Config.{block_words}
use Rattle.machine_step.specs.Step.{Config}
use Rattle.machine_step.specs.View.{upd}
use Rattle.trees_proof.specs.Evaluation.{Evaluated, done, faulted, and_then, evaluate}
use Rattle.heap.specs.Blocks.{Layout, Cell, pointers, Memory}
use Rattle.heap.proofs.CountingLemmas.{pointers_length}
use Rattle.heap.proofs.WordLemmas.{word_apart, header_at, cells_length, header_off, fields_all}
use Rattle.heap.specs.Words.{word_at, headers, cells_from, block_fields, memory_of, layout}
use Rattle.layout_proof.proofs.Operands.{block_address}
use Rattle.layout_proof.proofs.HeldLemmas.{upd_same, upd_other}
use Rattle.layout_proof.proofs.Runs.{Does}

abbrev pub L : Shape → Layout
L G = layout G.fields

abbrev pub heap_of : Shape → Config → Memory
heap_of G c = memory_of G.fields c.state.mem (c.state.reg 2) (c.state.reg 3)

-- the words of all blocks but their first are the same, so their fields are
abbrev pub SameFields : Shape → (ℕ → ℕ) → (ℕ → ℕ) → Type 0
SameFields G m m' = (x w : ℕ) → 1 ≤ w → w < block_words G → m' (word_at G.fields x w) ≡ m (word_at G.fields x w)

-- the first word of block j is written
module _ (G : Shape) (m : ℕ → ℕ) (j v : ℕ) where
  pub head_same : headers G.fields (upd m (word_at G.fields j 0) v) (block_address G j) ≡ v
  head_same = header_at G.fields (upd m (word_at G.fields j 0) v) j ∙ upd_same m (word_at G.fields j 0) v

  pub head_off : (b : ℕ) → b ≢ block_address G j → headers G.fields (upd m (word_at G.fields j 0) v) b ≡ headers G.fields m b
  head_off = header_off G.fields m (upd m (word_at G.fields j 0) v) j (λ x n. upd_other m (word_at G.fields j 0) v (word_at G.fields x 0) (word_apart G.fields x j 0 0 (omega arith) (omega arith) (λ e f. n e)))

  pub head_fields : SameFields G m (upd m (word_at G.fields j 0) v)
  head_fields x w a b = upd_other m (word_at G.fields j 0) v (word_at G.fields x w) (word_apart G.fields x j w 0 b (omega arith) (λ e f. omega arith))

  pub head_cells : block_fields G.fields (upd m (word_at G.fields j 0) v) ≡ block_fields G.fields m
  head_cells = fields_all G.fields m (upd m (word_at G.fields j 0) v) head_fields

pub cells_pointers : (G : Shape) (m : ℕ → ℕ) (j t n : ℕ) → length (pointers (cells_from G.fields m j t n)) ≡ n
cells_pointers G m j t n = pointers_length (cells_from G.fields m j t n) ∙ cells_length G.fields m j t n

pub minus_one : (x : ℕ) → x ≢ 0 → x < 18446744073709551616 → suc (sum x 18446744073709551615) ≡ x
unfolding sum
minus_one x n h = omega arith

-- the same fields and heads of lists
pub memory_is : (f f' : ℕ → List Cell) (h : ℕ → ℕ) (a a' b b' : ℕ) → f' ≡ f → a' ≡ a → b' ≡ b
    → ◌≡◌ {A = Memory} (record { fields = f; header = h; linear_head = a; lazy_head = b }) (record { fields = f'; header = h; linear_head = a'; lazy_head = b' })
memory_is f f' h a a' b b' x y z = rw (x, y, z)

-- parts of a sequence taken together the other way
module _ (words : ℕ → ℕ) where
  pub nothing_after : (t : Tree) (c : Config) → evaluate words (seq t nop) c ≡ evaluate words t c
  nothing_after t c = by (evaluate words t c)
    where
      by : (o : Evaluated) → and_then o (λ d. done d) ≡ o
      by (done d) = refl
      by (faulted d) = refl

  pub grouped : (t u v : Tree) (c : Config) → evaluate words (seq t (seq u v)) c ≡ evaluate words (seq (seq t u) v) c
  grouped t u v c = by (evaluate words t c)
    where
      by : (o : Evaluated) → and_then o (λ d. and_then (evaluate words u d) (λ e. evaluate words v e)) ≡ and_then (and_then o (λ d. evaluate words u d)) (λ d. evaluate words v d)
      by (done d) = refl
      by (faulted d) = refl

-- the same run of another tree
pub alike : {words : ℕ → ℕ} {t u : Tree} {c : Config} {Q : Config → Type 0} → evaluate words u c ≡ evaluate words t c → Does words t c Q → Does words u c Q
alike e d = record { to = d.to; run = e ∙ d.run; post = d.post }
