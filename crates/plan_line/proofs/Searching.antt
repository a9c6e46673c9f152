-- The search for a byte, and the words that it finds.
use Prim.Native.Nat.{ℕ, zero, suc, ◌+◌, ◌-◌, ◌≤◌, ◌<◌}
use mathlib.Core.Path.{◌≡◌, refl, sym, ap, ◌∙◌, subst}
use Rattle.std.specs.Prelude.{nat_lt, None, Some, position}
use Rattle.std.specs.List.{position_or_len}
use Rattle.std.proofs.lemmas.List.Recursion.{is_position_or_len}
use borrow.Author.Tests.{ltb-false}
use mathlib.Core.Bool.{Bool, true, false, not, cond}
use mathlib.Core.List.{List, [], ◌∷◌}
use native.Mathlib.Omega.{arith}
use lib.ListN.{length, get_or, take, drop, length-drop}
use lib.Seq.{drop-drop, get_or-drop, take_all}
use Rattle.records.proofs.Conditions.{both_ways}
use Rattle.plan_line.specs.Words.{before, found, part, onto, parts, filled}

pub drop_past : (s : List ℕ) (i : ℕ) → length s ≤ i → drop i s ≡ []
drop_past [] zero h = refl
drop_past [] (suc i) h = refl
drop_past (b ∷ s) zero h = absurd (omega arith)
drop_past (b ∷ s) (suc i) h = drop_past s i (omega arith)

-- all of a list but its first elements
pub tail_part : (w : List ℕ) (k : ℕ) → take (length w - k) (drop k w) ≡ drop k w
tail_part w k = take_all (length w - k) (drop k w) (omega (arith, length-drop k w))

at_position : (x : Bool) (n : ℕ) {k : ℕ} → cond x (Some n) None ≡ Some k → n ≡ k
at_position true n e = cc
at_position false n e = absurd cc

no_position : (n m : ℕ) (x : Bool) → nat_lt n m ≡ x → cond x (Some n) None ≡ None → m ≤ n
no_position n m true f e = absurd cc
no_position n m false f e = omega (arith, ltb-false n m f)

module _ (P : ℕ → Bool) where
  pub take_before : (l : List ℕ) → take (length (before P l)) l ≡ before P l
  unfolding before
  take_before [] = refl
  take_before (b ∷ l) = both_ways (λ m. take (length m) (b ∷ l) ≡ m) (P b) refl (ap (λ (t : List ℕ). b ∷ t) (take_before l))

  pub before_short : (l : List ℕ) → length (before P l) ≤ length l
  unfolding before
  before_short [] = omega arith
  before_short (b ∷ l) = let h = before_short l in both_ways (λ (m : List ℕ). length m ≤ length (b ∷ l)) (P b) (omega arith) (omega arith)

  length_on : (b : ℕ) (l : List ℕ) → length (before P (b ∷ l)) ≡ cond (P b) 0 (1 + length (before P l))
  unfolding before
  length_on b l = elim (P b) as (λ (x : Bool). length (cond x [] (b ∷ before P l)) ≡ cond x 0 (1 + length (before P l))) [ true ↦ refl | false ↦ omega arith ]

  pub before_is_position : (l : List ℕ) → length (before P l) ≡ position_or_len P l
  unfolding before
  before_is_position = is_position_or_len (λ (l : List ℕ). length (before P l)) P refl length_on

  -- one byte more, marked or not
  pick_stopped : (b : ℕ) (l m : List ℕ) (x : Bool) → P b ≡ x → (length m < length l → P (get_or l (length m) 0) ≡ true)
      → length (cond x [] (b ∷ m)) < length (b ∷ l) → P (get_or (b ∷ l) (length (cond x [] (b ∷ m))) 0) ≡ true
  pick_stopped b l m true e f h = e
  pick_stopped b l m false e f h = f (omega arith)

  -- the byte at the index is marked
  pub stopped : (l : List ℕ) → length (before P l) < length l → P (get_or l (length (before P l)) 0) ≡ true
  unfolding before
  stopped [] h = absurd (omega arith)
  stopped (b ∷ l) h = pick_stopped b l (before P l) (P b) refl (stopped l) h

  module _ (s : List ℕ) (i : ℕ) where
    -- the search by position in the rest of the list
    pub found_at : {k : ℕ} → position P (drop i s) ≡ Some k → i + k ≡ found P s i
    unfolding found
    found_at e = ap (λ (n : ℕ). i + n) (sym (before_is_position (drop i s) ∙ at_position (nat_lt (position_or_len P (drop i s)) (length (drop i s))) _ e))

    pub found_none : i ≤ length s → position P (drop i s) ≡ None → length s ≡ found P s i
    unfolding found
    found_none h e =
        let g = no_position (position_or_len P (drop i s)) (length (drop i s)) (nat_lt (position_or_len P (drop i s)) (length (drop i s))) refl e in
        let k = before_is_position (drop i s) in
        omega (arith, before_short (drop i s), length-drop i s, k, g)

    pub found_from : i ≤ found P s i
    unfolding found
    found_from = omega arith

    pub found_within : i ≤ length s → found P s i ≤ length s
    unfolding found
    found_within h = omega (arith, before_short (drop i s), length-drop i s)

    pub part_found : part i (found P s i) s ≡ before P (drop i s)
    unfolding found
    part_found =
        let e : i + length (before P (drop i s)) - i ≡ length (before P (drop i s)) = omega arith in
        rw e (take_before (drop i s))

    pub drop_found : drop (found P s i) s ≡ drop (length (before P (drop i s))) (drop i s)
    unfolding found
    drop_found = sym (drop-drop (length (before P (drop i s))) i s)

    pub found_stopped : found P s i < length s → i ≤ length s → P (get_or s (found P s i) 0) ≡ true
    unfolding found
    found_stopped h g =
        let e = get_or-drop i s (length (before P (drop i s))) 0 in
        subst (λ (b : ℕ). P b ≡ true) e (stopped (drop i s) (omega (arith, length-drop i s)))

-- the parts after the first
abbrev pub rest : (ℕ → Bool) → List ℕ → List (List ℕ)
rest P [] = []
rest P (b ∷ s) = parts P s

pick_parts : (P : ℕ → Bool) (b : ℕ) (l : List ℕ) (x : Bool)
    → parts P l ≡ before P l ∷ rest P (drop (length (before P l)) l)
    → cond x ([] ∷ parts P l) (onto b (parts P l)) ≡ cond x [] (b ∷ before P l) ∷ rest P (drop (length (cond x [] (b ∷ before P l))) (b ∷ l))
pick_parts P b l true h = refl
pick_parts P b l false h = ap (onto b) h

pub parts_first : (P : ℕ → Bool) (l : List ℕ) → parts P l ≡ before P l ∷ rest P (drop (length (before P l)) l)
unfolding parts before
parts_first P [] = refl
parts_first P (b ∷ l) = pick_parts P b l (P b) (parts_first P l)

pick_rest : (P : ℕ → Bool) (b : ℕ) (l : List ℕ) (x : Bool) → P b ≡ x
    → filled (rest P (drop (length (before P l)) l)) ≡ filled (parts P (drop (length (before P l)) l))
    → filled (rest P (drop (length (cond x [] (b ∷ before P l))) (b ∷ l))) ≡ filled (parts P (drop (length (cond x [] (b ∷ before P l))) (b ∷ l)))
unfolding parts
pick_rest P b l true e h = rw e
pick_rest P b l false e h = h

-- a marked byte in front adds an empty part
pub rest_filled : (P : ℕ → Bool) (l : List ℕ) → filled (rest P (drop (length (before P l)) l)) ≡ filled (parts P (drop (length (before P l)) l))
unfolding parts before
rest_filled P [] = refl
rest_filled P (b ∷ l) = pick_rest P b l (P b) refl (rest_filled P l)

-- marked bytes in front are passed over
pick_skip : (P : ℕ → Bool) (b : ℕ) (l m : List ℕ) (x : Bool) → P b ≡ x
    → filled (parts P (drop (length m) l)) ≡ filled (parts P l)
    → filled (parts P (drop (length (cond (not x) [] (b ∷ m))) (b ∷ l))) ≡ filled (parts P (b ∷ l))
unfolding parts
pick_skip P b l m true e h = rw e h
pick_skip P b l m false e h = refl

pub skipped : (P : ℕ → Bool) (l : List ℕ) → filled (parts P (drop (length (before (λ b. not (P b)) l)) l)) ≡ filled (parts P l)
unfolding before
skipped P [] = refl
skipped P (b ∷ l) = pick_skip P b l (before (λ b. not (P b)) l) (P b) refl (skipped P l)
