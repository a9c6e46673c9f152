-- Fields made into an item and back: the fields that its code uses are kept, and the others, which are zero where the record is well formed, are zero.
use Prim.Native.Nat.{ℕ, zero, suc, ◌+◌, ◌-◌, ◌≤◌, ◌<◌}
use mathlib.Core.Path.{◌≡◌, refl, sym, ap, ◌∙◌}
use mathlib.Core.Bool.{Bool, true, false, ◌&&◌, cond}
use mathlib.Core.List.{List, [], ◌∷◌, map}
use native.Mathlib.Nat.{add-zero, add-suc, suc-add, le_of_suc-le-suc, not-suc-le-zero}
use native.Mathlib.Omega.{arith}
use lib.Dec.{eqb}
use lib.ListN.{get_or, get_or-map}
use borrow.Author.Tests.{eqb-true}
use Rattle.records.proofs.Conditions.{both}

-- a field, where u is 1 if it is used
abbrev pub kept : ℕ → ℕ → ℕ
kept u x = cond (eqb u 1) x 0

pub kept_whole : (u x : ℕ) (ok : Bool) → cond (eqb u 1) ok (eqb x 0) ≡ true → kept u x ≡ x
kept_whole u x ok e = by (eqb u 1) e
  where
    by : (b : Bool) → cond b ok (eqb x 0) ≡ true → cond b x 0 ≡ x
    by true e = refl
    by false e = sym (eqb-true x 0 e)

-- the same of the last of several conditions
pub kept_last : (a : Bool) (u x : ℕ) (ok : Bool) → a && cond (eqb u 1) ok (eqb x 0) ≡ true → (a ≡ true) × (kept u x ≡ x)
kept_last a u x ok e = let p = both a _ e in (p.0, kept_whole u x ok p.1)

-- n entries of a table, from entry k on
abbrev pub entries : {B : Type 0} → (ℕ → B) → ℕ → ℕ → List B
entries f k zero = []
entries f k (suc n) = f k ∷ entries f (suc k) n

entry : {B : Type 0} (f : ℕ → B) (n k j : ℕ) (d : B) → j < n → get_or (entries f k n) j d ≡ f (k + j)
entry f zero k j d h = absurd (not-suc-le-zero h)
entry f (suc n) k zero d h = rw add-zero
entry f (suc n) k (suc j) d h = rw (add-suc, ← suc-add k) (entry f n (suc k) j d (le_of_suc-le-suc h))

-- the fields f, made into an item by the reader of their code and back, where one list of all readers gives what is expected
module _ {F C : Type 0} (readers : List (F → C)) (fields_of : C → F) (expected : ℕ → F) (n : ℕ) (f : F) where
  pub read_at : map (λ r. fields_of (r f)) readers ≡ entries (λ k. expected (suc k)) 0 n
      → (code : ℕ) (d : F → C) → 1 ≤ code → code ≤ n → fields_of (get_or readers (code - 1) d f) ≡ expected code
  read_at e code d l h =
      let one : suc (0 + (code - 1)) ≡ code = omega arith in
      sym (get_or-map (λ r. fields_of (r f)) readers (code - 1) d)
      ∙ rw e (entry (λ k. expected (suc k)) n 0 (code - 1) (fields_of (d f)) (omega arith)) ∙ ap expected one
