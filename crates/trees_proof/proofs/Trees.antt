-- The records of a tree do what the tree does: by induction over the tree, at any place of a list in which its labels stand once.
use Rattle.std.specs.Prelude.{Ok, Some}
use Prim.Native.Nat.{ℕ, zero, suc, ◌+◌, ◌-◌, ◌≤◌}
use mathlib.Core.Path.{◌≡◌, refl, subst, ◌∙◌}
use mathlib.Core.List.{List, [], ◌∷◌, ◌++◌, append_assoc, append-nil}
use mathlib.Core.Option.{none}
use native.Mathlib.Omega.{arith}
use native.Mathlib.Nat.{add-zero, zero-add}
use native.Mathlib.Numerals.{add-one}
use lib.ListN.{length, drop, get_elem?}
use lib.Seq.{drop_at}
use Rattle.records.specs.declared.code.Code.{Code}
use Rattle.records.specs.declared.code.Code.TheVariants.{LAB, JMPL}
use Rattle.trees.specs.Tree.{Tree, nop, leaf, seq, skip_if_zero, if_zero, labels, size, flat_at, flat}
use Rattle.trees.proofs.Flat.{length_flat}
use Rattle.machine_step.specs.View.{View}
use Rattle.machine_step.specs.Step.{Config, dropped, step}
use Rattle.machine.specs.Run.{find, runs, started, starting}
use Rattle.machine.specs.Run as machine
use Rattle.trees_proof.specs.Evaluation.{Evaluated, done, faulted, evaluated, and_then, evaluate}
use Rattle.trees_proof.specs.Claims.{RunsAs, TreeRunsWithin, RunAnswers, TreeRunsWhole}
use Rattle.trees_proof.proofs.Labels.{Once, once, found}
use Rattle.trees_proof.proofs.Steps.{drop_one, drop_part, after, joined, straight_does, mark_does, jump_does, choice_does}

module _ (words : ℕ → ℕ) (p : List Code) where
  -- no record
  none_does : (i : ℕ) (z : Config) → RunsAs words p 0 i (i + 0) z (done z)
  none_does i z = record { steps = 0; within = omega arith; run = λ left made. simp (zero-add, add-zero) }

  -- a part, and the mark after it
  marked : (m i : ℕ) {label : ℕ} {xs : List Code} (z : Config) (o : Evaluated) → RunsAs words p m i (i + m) z o → drop (i + m) p ≡ LAB label ∷ xs
      → RunsAs words p (m + 1) i (suc (i + m)) z (and_then o (λ f. done (dropped f)))
  marked m i z o g e =
      joined words p m 1 i (i + m) (suc (i + m)) z o (λ f. done (dropped f)) g (λ f. mark_does words p (i + m) e f) (omega arith) (omega arith) (m + 1) (omega arith)

  -- a part, and the jump past another to its mark
  passed : (m i j : ℕ) {label : ℕ} {xs ys : List Code} (z : Config) (o : Evaluated) → RunsAs words p m i (i + m) z o → drop (i + m) p ≡ JMPL label ∷ xs
      → find label p ≡ Some j → drop j p ≡ LAB label ∷ ys → i + m ≤ j → RunsAs words p (m + 2) i (suc j) z (and_then o (λ f. done (dropped f)))
  passed m i j z o g e f d h =
      joined words p m 2 i (i + m) (suc j) z o (λ y. done (dropped y)) g
      (λ y. after words p 1 1 (i + m) j (suc j) (done (dropped y)) (jump_does words p (i + m) e f y) (mark_does words p j d (dropped y)) h 2 (omega arith))
      (omega arith) (omega arith) (m + 2) (omega arith)

  -- at any place
  pub does : (t : Tree) (c n i : ℕ) (xs : List Code) (z : Config) → drop i p ≡ flat_at t c n ++ xs → Once (c + n) (c + n + labels t) p
      → RunsAs words p (size t) i (i + size t) z (evaluate words t z)
  does nop c n i xs z e h = none_does i z
  does (leaf x q) c n i xs z e h = rw add-one (straight_does words p i e z q)
  does (seq t u) c n i xs z e h =
      let e₁ : drop i p ≡ flat_at t c n ++ (flat_at u c (n + labels t) ++ xs) = e ∙ append_assoc (flat_at t c n) (flat_at u c (n + labels t)) xs in
      let e₂ = drop_part p i (size t) (flat_at t c n) _ e₁ (length_flat t c n) in
      let k : i + (size t + size u) ≡ i + size t + size u = omega arith in
      rw k (joined words p (size t) (size u) i (i + size t) (i + size t + size u) z (evaluate words t z) (λ d. evaluate words u d)
      (does t c n i _ z e₁ (λ l a b. h l a (omega arith)))
      (λ d. does u c (n + labels t) (i + size t) xs d e₂ (λ l a b. h l (omega arith) (omega arith)))
      (omega arith) (omega arith) (size t + size u) (omega arith))
  does (skip_if_zero x q t) c n i xs z e h =
      let l : ℕ = c + (n + labels t + 1) in
      let i₂ : ℕ = suc (suc i) in
      let e₁ = drop_one p i e in
      let e₂ : drop i₂ p ≡ flat_at t c n ++ (LAB l ∷ xs) = drop_one p (suc i) e₁ ∙ append_assoc (flat_at t c n) (LAB l ∷ []) xs in
      let j : ℕ = i₂ + size t in
      let e₃ = drop_part p i₂ (size t) (flat_at t c n) _ e₂ (length_flat t c n) in
      let f = found l p j xs e₃ (h l (omega arith) (omega arith)) in
      let k : i + (size t + 3) ≡ suc j = omega arith in
      rw k (joined words p 1 (size t + 2) i (suc i) (suc j) z (evaluated (step words x z)) _ (straight_does words p i e z q)
      (λ d. choice_does words p 1 (size t + 1) (suc i) j (suc j) e₁ f d (done (dropped d)) (and_then (evaluate words t (dropped d)) (λ y. done (dropped y)))
      (mark_does words p j e₃ (dropped d))
      (marked (size t) i₂ (dropped d) (evaluate words t (dropped d)) (does t c n i₂ _ (dropped d) e₂ (λ l a b. h l a (omega arith))) e₃)
      (omega arith) (omega arith) (size t + 2) (omega arith) (omega arith))
      (omega arith) (omega arith) (size t + 3) (omega arith))
  does (if_zero x q t u) c n i xs z e h =
      let l₁ : ℕ = c + (n + labels t + labels u + 1) in
      let l₂ : ℕ = c + (n + labels t + labels u + 2) in
      let i₂ : ℕ = suc (suc i) in
      let e₁ = drop_one p i e in
      let e₂ : drop i₂ p ≡ flat_at u c (n + labels t) ++ (JMPL l₂ ∷ LAB l₁ ∷ (flat_at t c n ++ (LAB l₂ ∷ xs))) = drop_one p (suc i) e₁ ∙ simp append_assoc in
      let i₃ : ℕ = i₂ + size u in
      let e₃ = drop_part p i₂ (size u) (flat_at u c (n + labels t)) _ e₂ (length_flat u c (n + labels t)) in
      let e₄ = drop_one p i₃ e₃ in
      let e₅ = drop_one p (suc i₃) e₄ in
      let j : ℕ = suc (suc i₃) + size t in
      let e₆ = drop_part p (suc (suc i₃)) (size t) (flat_at t c n) _ e₅ (length_flat t c n) in
      let f₁ = found l₁ p (suc i₃) _ e₄ (h l₁ (omega arith) (omega arith)) in
      let f₂ = found l₂ p j xs e₆ (h l₂ (omega arith) (omega arith)) in
      let k : i + (size t + size u + 5) ≡ suc j = omega arith in
      rw k (joined words p 1 (size t + size u + 4) i (suc i) (suc j) z (evaluated (step words x z)) _ (straight_does words p i e z q)
      (λ d. choice_does words p (size t + 2) (size u + 2) (suc i) (suc i₃) (suc j) e₁ f₁ d
      (and_then (evaluate words t (dropped d)) (λ y. done (dropped y))) (and_then (evaluate words u (dropped d)) (λ y. done (dropped y)))
      (after words p 1 (size t + 1) (suc i₃) (suc (suc i₃)) (suc j) (and_then (evaluate words t (dropped d)) (λ y. done (dropped y))) (mark_does words p (suc i₃) e₄ (dropped d))
      (marked (size t) (suc (suc i₃)) (dropped d) (evaluate words t (dropped d)) (does t c n (suc (suc i₃)) _ (dropped d) e₅ (λ l a b. h l a (omega arith))) e₆)
      (omega arith) (size t + 2) (omega arith))
      (passed (size u) i₂ j (dropped d) (evaluate words u (dropped d)) (does u c (n + labels t) i₂ _ (dropped d) e₂ (λ l a b. h l (omega arith) (omega arith))) e₃ f₂ e₆ (omega arith))
      (omega arith) (omega arith) (size t + size u + 4) (omega arith) (omega arith))
      (omega arith) (omega arith) (size t + size u + 5) (omega arith))

-- past the last record a run has ended
at_end : (p : List Code) → get_elem? p (length p) ≡ none
at_end [] = refl
at_end (x ∷ xs) = at_end xs

ended : (words : ℕ → ℕ) (p : List Code) (left made : ℕ) (c : Config) → runs words p left made (length p) c ≡ machine.done (Ok made) c
unfolding runs
ended words p zero made c = rw (at_end p)
ended words p (suc left) made c = rw (at_end p)

-- a part that is the whole
answers : (words : ℕ → ℕ) (p : List Code) (more : ℕ) (z : Config) (o : Evaluated) → RunsAs words p (length p) 0 (length p) z o → RunAnswers (length p) (runs words p (length p + more) 0 0 z) o
answers words p more z (done d) r =
    let k : length p + more ≡ r.steps + (length p - r.steps + more) = omega arith in
    (r.steps, r.within, rw k (rw zero-add at (r.run (length p - r.steps + more) 0) ∙ ended words p (length p - r.steps + more) r.steps d))
answers words p more z (faulted d) r =
    let k : length p + more ≡ r.steps + suc (length p - suc r.steps + more) = omega arith in
    (r.steps, r.place, r.within, r.above, r.below, rw k (rw zero-add at (r.run (length p - suc r.steps + more) 0)))

pub tree_runs_within : TreeRunsWithin
unfolding TreeRunsWithin
tree_runs_within words t c n before after z f g =
    does words (before ++ (flat_at t c n ++ after)) t c n (length before) after z (drop_at before (flat_at t c n ++ after) (length before) refl) (once t c n before after f g)

pub tree_runs_whole : TreeRunsWhole
unfolding TreeRunsWhole TreeRunsWithin machine.places_of
tree_runs_whole words t c more v =
    let z : Config = starting v in
    let d : RunsAs words (flat t c) (size t) 0 (size t) z (evaluate words t z) = rw (append-nil, zero-add) at (tree_runs_within words t c 0 [] [] z (λ l a b. refl) (λ l a b. refl)) in
    rw (← length_flat t c 0) (answers words (flat t c) more z (evaluate words t z) (rw (length_flat t c 0) d))

-- the same for callers who know what the tree does
pub tree_ends : (words : ℕ → ℕ) (t : Tree) (c more : ℕ) (v : View) (d : Config) → evaluate words t (starting v) ≡ done d
    → (k : ℕ) × (k ≤ size t) × (started words (flat t c) (size t + more) v ≡ machine.done (Ok k) d)
unfolding TreeRunsWhole
tree_ends words t c more v d e = subst (RunAnswers (size t) (started words (flat t c) (size t + more) v)) e (tree_runs_whole words t c more v)
