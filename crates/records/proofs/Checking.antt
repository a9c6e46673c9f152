-- A check of a list, record by record: where it starts, what one turn keeps, and what each end of the loop answers.
use Rattle.records.specs.declared.check.Malformed.{Malformed}
use Rattle.std.specs.Prelude.{Err, Ok, Result}
use Prim.Native.Nat.{ℕ, zero, suc, ◌+◌, ◌*◌, ◌-◌, ◌≤◌, ◌<◌}
use mathlib.Core.Path.{◌≡◌, refl, ◌∙◌}
use mathlib.Core.Bool.{Bool, true, false, ◌&&◌, cond}
use mathlib.Core.List.{List}
use native.Mathlib.Nat.{sub-zero, mul-suc}
use native.Mathlib.Numerals.{add-one}
use native.Mathlib.Omega.{arith}
use native.Mathlib.Decide.{ℕ_discrete}
use lib.Dec.{ltb}
use lib.ListN.{length, drop, length-drop}
use borrow.Author.Tests.{lt-ltb, ltb-true}
use Rattle.records.specs.Checked.{first_bad, places, checked, malformed}
use Rattle.records.proofs.Conditions.{both}

not_both : (a b : Bool) → (a ≡ true → b ≡ false) → a && b ≡ false
not_both true b r = r refl
not_both false b r = refl

module _ (ok : List ℕ → Bool) (size limit : ℕ) (s : List ℕ) where
  pub begun : checked ok size limit s ≡ first_bad ok size limit s 0 (places size s - 0)
  unfolding checked
  begun = rw sub-zero

  -- k of n records are checked, all is to do from the k-th on, and that starts at i
  module _ (k n i : ℕ) {all : Result ℕ Malformed} (here : i ≡ size * k) (so_far : all ≡ first_bad ok size limit s k (n - k)) where
    pub turn : {b : Bool} → k < n → k < limit → b ≡ ok (drop i s) → b ≡ true → all ≡ first_bad ok size limit s (k + 1) (n - (k + 1))
    unfolding first_bad
    turn h l e t = let m : n - k ≡ suc (n - (k + 1)) = omega arith in so_far ∙ rw (m, add-one, lt-ltb k limit l, ← here, ← e, t)

    -- past the limit, or not whole
    pub left_over : k < n → (k < limit → ok (drop i s) ≡ false) → Err (malformed (k + 1)) ≡ all
    unfolding first_bad
    left_over h r =
        let m : n - k ≡ suc (n - (k + 1)) = omega arith in
        rw (so_far, m, add-one, ← here, not_both (ltb k limit) (ok (drop i s)) (λ t. r (ltb-true k limit t)))

    pub bad : {b : Bool} → k < n → k < limit → b ≡ ok (drop i s) → b ≡ false → Err (malformed (k + 1)) ≡ all
    unfolding first_bad
    bad h l e t = let m : n - k ≡ suc (n - (k + 1)) = omega arith in rw (so_far, m, add-one, lt-ltb k limit l, ← here, ← e, t)

    pub done : n ≤ k → Ok k ≡ all
    unfolding first_bad
    done h = let m : n - k ≡ 0 = omega arith in rw (so_far, m)

pub passed : {m : ℕ} (b : Bool) (c : Result ℕ Malformed) (place : ℕ) → cond b c (Err (malformed place)) ≡ Ok m → (b ≡ true) × (c ≡ Ok m)
passed true c place e = (refl, e)
passed false c place e = (cc, cc)

-- a list that is accepted has all its records checked
pub all_checked : (ok : List ℕ → Bool) (size limit : ℕ) (s : List ℕ) (k n m : ℕ) → first_bad ok size limit s k n ≡ Ok m → m ≡ k + n
unfolding first_bad
all_checked ok size limit s k zero m e = let q : m ≡ k = cc in omega arith
all_checked ok size limit s k (suc n) m e =
    let p = passed (ltb k limit && ok (drop (size * k) s)) (first_bad ok size limit s (suc k) n) (suc k) e in
    omega (arith, all_checked ok size limit s (suc k) n m p.1)

-- and passed
module _ (ok : List ℕ → Bool) (size limit : ℕ) (s : List ℕ) where
  abbrev Passed : ℕ → ℕ → Type 0
  Passed k m = (i : ℕ) → k ≤ i → i < m → ok (drop (size * i) s) ≡ true

  pub all_passed : (k n m : ℕ) → first_bad ok size limit s k n ≡ Ok m → Passed k m
  unfolding first_bad
  all_passed k zero m e = let q : m ≡ k = cc in λ i h l. absurd (omega arith)
  all_passed k (suc n) m e =
      let t = drop (size * k) s in
      let p = passed (ltb k limit && ok t) (first_bad ok size limit s (suc k) n) (suc k) e in
      λ i h l. by i h l (both (ltb k limit) (ok t) p.0).1 (all_passed (suc k) n m p.1) (ℕ_discrete i k)
    where
      by : (i : ℕ) → k ≤ i → i < m → ok (drop (size * k) s) ≡ true → Passed (suc k) m → Dec (i ≡ k) → ok (drop (size * i) s) ≡ true
      by i h l b r (yes e) = rw e b
      by i h l b r (no f) = r i (omega arith) l

-- a list that is accepted has no more records than the limit, all of them whole
module _ (ok : List ℕ → Bool) (size limit : ℕ) (s : List ℕ) (whole : (t : List ℕ) → ok t ≡ true → size ≤ length t) where
  pub good_within : (k n m : ℕ) → first_bad ok size limit s k n ≡ Ok m → k ≤ limit → size * k ≤ length s → (m ≤ limit) × (size * m ≤ length s)
  unfolding first_bad
  good_within k zero m e l h = let q : m ≡ k = cc in rw q (l, h)
  good_within k (suc n) m e l h =
      let t = drop (size * k) s in
      let p = passed (ltb k limit && ok t) (first_bad ok size limit s (suc k) n) (suc k) e in
      let b = both (ltb k limit) (ok t) p.0 in
      let w = simp length-drop at (whole t b.1) in
      good_within (suc k) n m p.1 (ltb-true k limit b.0) (rw mul-suc (omega arith))
