-- Labels counted: a label that stands once in a list is found where it stands, and a tree's records have each label that the tree draws once and no other.
use Rattle.std.specs.Prelude.{Some}
use Prim.Native.Nat.{ℕ, zero, suc, ◌+◌, ◌-◌, ◌≤◌, ◌<◌, min}
use mathlib.Core.Path.{◌≡◌, refl, sym, ap, ◌∙◌}
use mathlib.Core.Bool.{Bool, true, false, cond}
use mathlib.Core.List.{List, [], ◌∷◌, ◌++◌}
use native.Mathlib.Omega.{arith}
use native.Mathlib.Nat.{add_assoc, add-zero, zero-add}
use lib.Dec.{eqb}
use lib.ListN.{length, drop}
use borrow.Author.Tests.{eq-eqb, eqb-true, eqb-false}
use Rattle.records.specs.declared.code.Code.{Code}
use Rattle.records.specs.declared.code.Code.TheVariants.{LAB, JMPL}
use Rattle.trees.specs.Tree.{Tree, nop, leaf, seq, skip_if_zero, if_zero, labels, flat_at, straight}
use Rattle.machine.specs.Run.{is_lab, places_of, the_one, find}
use Rattle.trees_proof.specs.Claims.{Without}
use Rattle.trees_proof.proofs.Straight.{straight_no_lab}

abbrev one : Bool → ℕ
one b = cond b 1 0

-- how many LAB records have a label
abbrev pub count : ℕ → List Code → ℕ
count label [] = 0
count label (x ∷ xs) = one (is_lab label x) + count label xs

pub nil_cons : {x : Code} {xs : List Code} → [] ≡ x ∷ xs → ⊥
nil_cons e = let z : ◌≡◌ {A = ℕ} 0 1 = cc in omega arith

module _ (label : ℕ) where
  places_count : (xs : List Code) (i : ℕ) → length (places_of label xs i) ≡ count label xs
  unfolding places_of
  places_count [] i = refl
  places_count (x ∷ xs) i = at (is_lab label x) (places_count xs (suc i))
    where
      at : (b : Bool) → length (places_of label xs (suc i)) ≡ count label xs
          → length (cond b (i ∷ places_of label xs (suc i)) (places_of label xs (suc i))) ≡ one b + count label xs
      at true h = omega arith
      at false h = omega arith

  places_none : (xs : List Code) (i : ℕ) → count label xs ≡ 0 → places_of label xs i ≡ []
  unfolding places_of
  places_none [] i e = refl
  places_none (x ∷ xs) i e = at (is_lab label x) e (places_none xs (suc i))
    where
      at : (b : Bool) → one b + count label xs ≡ 0 → (count label xs ≡ 0 → places_of label xs (suc i) ≡ [])
          → cond b (i ∷ places_of label xs (suc i)) (places_of label xs (suc i)) ≡ []
      at true e h = absurd (omega arith)
      at false e h = h (omega arith)

  counted : (p : List Code) (i : ℕ) (xs : List Code) → drop i p ≡ LAB label ∷ xs → 1 ≤ count label p
  counted [] zero xs e = absurd (nil_cons e)
  counted [] (suc i) xs e = absurd (nil_cons e)
  counted (y ∷ ys) zero xs e =
      let g : y ≡ LAB label = cc in
      rw (g, eq-eqb label label refl) (omega arith)
  counted (y ∷ ys) (suc i) xs e = omega (arith, counted ys i xs e)

  places_one : (p : List Code) (i from : ℕ) (xs : List Code) → drop i p ≡ LAB label ∷ xs → count label p ≤ 1 → places_of label p from ≡ (from + i) ∷ []
  unfolding places_of
  places_one [] zero from xs e h = absurd (nil_cons e)
  places_one [] (suc i) from xs e h = absurd (nil_cons e)
  places_one (y ∷ ys) zero from xs e h =
      let g : y ≡ LAB label = cc in
      let k : is_lab label y ≡ true = rw (g, eq-eqb label label refl) in
      let m : count label ys ≡ 0 = omega (arith, ap one k) in
      rw (k, places_none ys (suc from) m, add-zero from)
  places_one (y ∷ ys) (suc i) from xs e h = at (is_lab label y) h (places_one ys i (suc from) xs e)
    where
      at : (b : Bool) → one b + count label ys ≤ 1 → (count label ys ≤ 1 → places_of label ys (suc from) ≡ (suc from + i) ∷ [])
          → cond b (from ∷ places_of label ys (suc from)) (places_of label ys (suc from)) ≡ (from + suc i) ∷ []
      at true l r = absurd (omega (arith, counted ys i xs e))
      at false l r = let k : suc from + i ≡ from + suc i = omega arith in r (omega arith) ∙ ap (λ n. n ∷ []) k

  -- a label that stands once is found where it stands
  pub found : (p : List Code) (i : ℕ) (xs : List Code) → drop i p ≡ LAB label ∷ xs → count label p ≤ 1 → find label p ≡ Some i
  found p i xs e h = ap the_one (places_one p i 0 xs e h) ∙ ap Some (zero-add i)

  pub count_append : (xs ys : List Code) → count label (xs ++ ys) ≡ count label xs + count label ys
  count_append [] ys = omega arith
  count_append (x ∷ xs) ys = omega (arith, count_append xs ys)

  pub count_none : (xs : List Code) → places_of label xs 0 ≡ [] → count label xs ≡ 0
  count_none xs e = sym (places_count xs 0) ∙ ap length e

-- one for a label above c
reach : ℕ → ℕ → ℕ
reach label c = min (label - c) 1

reach_one : (label c : ℕ) → reach label c ≤ 1
unfolding reach
reach_one label c = omega arith

-- a mark with the next label
mark_next : (label k : ℕ) → one (eqb (k + 1) label) + reach label (k + 1) ≡ reach label k
unfolding reach
mark_next label k = at (eqb (k + 1) label) refl
  where
    at : (b : Bool) → eqb (k + 1) label ≡ b → one b + min (label - (k + 1)) 1 ≡ min (label - k) 1
    at true e = let h : k + 1 ≡ label = eqb-true _ _ e in omega arith
    at false e = let h : k + 1 ≡ label → ⊥ = eqb-false _ _ e in omega arith

straight_none : (label : ℕ) (x : Code) → straight x ≡ true → one (is_lab label x) ≡ 0
straight_none label x e = rw (straight_no_lab label x e)

-- a tree's labels are those from its counter up, each once
counts : (t : Tree) (c n label : ℕ) → count label (flat_at t c n) + reach label (c + (n + labels t)) ≡ reach label (c + n)
counts nop c n l = omega (arith, ap (λ k. reach l (c + k)) (add-zero n))
counts (leaf x p) c n l = omega (arith, straight_none l x p, ap (λ k. reach l (c + k)) (add-zero n))
counts (seq t u) c n l =
    omega (arith, count_append l (flat_at t c n) (flat_at u c (n + labels t)), counts t c n l, counts u c (n + labels t) l, ap (λ k. reach l (c + k)) (add_assoc n (labels t) (labels u)))
counts (skip_if_zero x p t) c n l =
    let k : ℕ = c + (n + labels t) in
    let m : ℕ = c + (n + labels t + 1) in
    let a : m ≡ k + 1 = omega arith in
    let b : c + (n + (labels t + 1)) ≡ k + 1 = omega arith in
    omega (arith, straight_none l x p, count_append l (flat_at t c n) (LAB m ∷ []), counts t c n l, mark_next l k, ap (λ i. one (eqb i l)) a, ap (reach l) b)
counts (if_zero x p t e) c n l =
    let k : ℕ = c + (n + labels t + labels e) in
    let m₁ : ℕ = c + (n + labels t + labels e + 1) in
    let m₂ : ℕ = c + (n + labels t + labels e + 2) in
    let a : c + (n + (labels t + labels e + 2)) ≡ k + 1 + 1 = omega arith in
    let b₁ : m₁ ≡ k + 1 = omega arith in
    let b₂ : m₂ ≡ k + 1 + 1 = omega arith in
    omega (
      arith,
      straight_none l x p,
      count_append l (flat_at e c (n + labels t)) (JMPL m₂ ∷ LAB m₁ ∷ (flat_at t c n ++ LAB m₂ ∷ [])),
      count_append l (flat_at t c n) (LAB m₂ ∷ []),
      counts t c n l,
      counts e c (n + labels t) l,
      mark_next l k,
      mark_next l (k + 1),
      ap (λ i. one (eqb i l)) b₁,
      ap (λ i. one (eqb i l)) b₂,
      ap (reach l) a,
    )

-- every label above low and up to high stands at most once
abbrev pub Once : ℕ → ℕ → List Code → Type 0
Once low high p = (label : ℕ) → low < label → label ≤ high → count label p ≤ 1

-- as a tree's own do, where no other record has them
pub once : (t : Tree) (c n : ℕ) (before after : List Code) → Without (c + n) (c + n + labels t) before → Without (c + n) (c + n + labels t) after
    → Once (c + n) (c + n + labels t) (before ++ (flat_at t c n ++ after))
once t c n before after f g l h k =
    omega (arith, count_append l before (flat_at t c n ++ after), count_append l (flat_at t c n) after, count_none l before (f l h k), count_none l after (g l h k), counts t c n l, reach_one l (c + n))
