-- That a tree's run leaves something true, or faults and then for a reason; and how such runs are put together.
use mathlib.Core.Bool.{true}
use mathlib.Core.Path.{◌≡◌, refl, sym, ◌∙◌}
use Prim.Native.Nat.{ℕ, ◌+◌, ◌-◌, ◌*◌, ◌/◌, ◌%◌, ◌^◌, ◌≤◌, ◌<◌}
use native.Mathlib.Omega.{arith}
use lib.Dec.{eqb}
use borrow.Author.Tests.{lt-leb, le-leb, le-ltb}
use Rattle.records.specs.declared.code.Code.{Code}
use Rattle.records.specs.declared.code.Code.TheVariants.{MOVL}
use Rattle.word.specs.Words.{sum}
use Rattle.trees.specs.Tree.{Tree, leaf, seq, if_zero, straight}
use Rattle.layout.specs.declared.config.Shape.{Shape}
use Rattle.layout.specs.Config.{block_words}
use Rattle.machine_step.specs.declared.memory.Place.TheVariants.{Nowhere}
use Rattle.machine_step.specs.Memory.{place_of}
use Rattle.machine_step.specs.Step.{Config, dropped, next, step}
use Rattle.trees_proof.specs.Evaluation.{done, faulted, evaluate}
use Rattle.heap.proofs.WordLemmas.{word_past, heap_below}
use Rattle.heap.specs.Words.{word_at}
use Rattle.layout_proof.specs.Held.{Placed}
use Rattle.layout_proof.proofs.Operands.{with_pair, block_address}
use Rattle.layout_proof.proofs.Runs.{Does}
use Rattle.memory_proof.proofs.Shown.{grouped}

pub data Attempts (words : ℕ → ℕ) (t : Tree) (c : Config) (F : Type 0) (Q : Config → Type 0) : Type 0 where
  does : Does words t c Q → Attempts words t c F Q
  faults : (d : Config) → evaluate words t c ≡ faulted d → F → Attempts words t c F Q

-- a run that is done is not faulted
pub apart : {c d : Config} → done c ≡ faulted d → ⊥
apart e = let z : ◌≡◌ {A = ℕ} 0 1 = cc in omega arith

module _ {words : ℕ → ℕ} {F : Type 0} where
  pub attempt_then : {t u : Tree} {c : Config} {Q R : Config → Type 0} → Attempts words t c F Q → ((d : Config) → Q d → Attempts words u d F R) → Attempts words (seq t u) c F R
  attempt_then {t} {u} {c} {Q} {R} (does r) k = by (k r.to r.post)
    where
      by : Attempts words u r.to F R → Attempts words (seq t u) c F R
      by (does s) = does (record { to = s.to; run = rw r.run s.run; post = s.post })
      by (faults d e f) = faults d (rw r.run e) f
  attempt_then (faults d e f) k = faults d (rw e) f

  pub attempt_go : {t u : Tree} {c d : Config} {R : Config → Type 0} → evaluate words t c ≡ done d → Attempts words u d F R → Attempts words (seq t u) c F R
  attempt_go e (does s) = does (record { to = s.to; run = rw e s.run; post = s.post })
  attempt_go e (faults d x f) = faults d (rw e x) f

  pub attempt_weaken : {t : Tree} {c : Config} {Q R : Config → Type 0} → ((d : Config) → Q d → R d) → Attempts words t c F Q → Attempts words t c F R
  attempt_weaken k (does s) = does (record { to = s.to; run = s.run; post = k s.to s.post })
  attempt_weaken k (faults d e f) = faults d e f

  pub attempt_why : {F' : Type 0} {t : Tree} {c : Config} {Q : Config → Type 0} → (F → F') → Attempts words t c F Q → Attempts words t c F' Q
  attempt_why k (does s) = does s
  attempt_why k (faults d e f) = faults d e (k f)

  pub attempt_alike : {t u : Tree} {c : Config} {Q : Config → Type 0} → evaluate words u c ≡ evaluate words t c → Attempts words t c F Q → Attempts words u c F Q
  attempt_alike e (does s) = does (record { to = s.to; run = e ∙ s.run; post = s.post })
  attempt_alike e (faults d x f) = faults d (e ∙ x) f

  pub attempt_regroup : {t u v : Tree} {c : Config} {Q : Config → Type 0} → Attempts words (seq (seq t u) v) c F Q → Attempts words (seq t (seq u v)) c F Q
  attempt_regroup {t} {u} {v} {c} a = attempt_alike (grouped words t u v c) a

  -- where the reason is none
  pub surely : {t : Tree} {c : Config} {Q : Config → Type 0} → (F → ⊥) → Attempts words t c F Q → Does words t c Q
  surely n (does s) = s
  surely n (faults d e f) = absurd (n f)

  -- where the run is known to be done
  pub unless_faulted : {t : Tree} {c d : Config} {Q : Config → Type 0} → Attempts words t c F Q → evaluate words t c ≡ done d → Does words t c Q
  unless_faulted (does s) e = s
  unless_faulted (faults d x f) e = absurd (apart (sym e ∙ x))

  pub attempt_yes : {code : Code} {p : straight code ≡ true} {c : Config} {x y : ℕ} {Q : Config → Type 0} {t e : Tree} → step words code c ≡ next (with_pair c x y) → eqb x y ≡ true
      → Attempts words t (dropped c) F (λ d. Q (dropped d)) → Attempts words (if_zero code p t e) c F Q
  attempt_yes w z (does r) = does (record { to = dropped r.to; run = rw (w, z, r.run); post = r.post })
  attempt_yes w z (faults d r f) = faults d (rw (w, z, r)) f

-- a block past the heap's last is no place
module _ (words : ℕ → ℕ) {G : Shape} {N : ℕ} (c : Config) (v : Placed G N c) (r j : ℕ) (p : c.state.reg r ≡ block_address G j) (h : N ≤ j) (m : j ≤ 1048577) where
  no_place : place_of c.state.depth c.state.size (sum (c.state.reg r) 0) ≡ Nowhere
  unfolding place_of sum
  no_place =
      let k : ℕ = word_at G.fields j 0 in
      let b : block_words G * j ≤ 16 * j = heap_below G.fields j v.shape.few in
      let e : (block_address G j + 0) % 2 ^ 64 ≡ 65536 + 8 * k = omega arith in
      let e1 : (65536 + 8 * k) % 8 ≡ 0 = omega arith in
      let e2 : (65536 + 8 * k - 65536) / 8 ≡ k = omega arith in
      let e3 : 65536 + 8 * k < 1099511627776 = omega arith in
      let e6 : c.state.depth ≤ (1099511627768 - (65536 + 8 * k)) / 8 = omega (arith, v.deep, v.shape.frame) in
      let e4 : 65536 ≤ 65536 + 8 * k = omega arith in
      let e5 : block_words G * N ≤ k = word_past G.fields N j 0 h in
      simp (p, v.words, e, e1, e2, lt-leb _ _ e3, le-ltb _ _ e6, le-leb _ _ e4, le-ltb _ _ e5)

  pub block_outside : (a : ℕ) → evaluate words (leaf (MOVL a r 0) refl) c ≡ faulted c
  unfolding step
  block_outside a = rw no_place
