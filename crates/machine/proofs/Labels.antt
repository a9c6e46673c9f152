-- Labels sought in the bytes: one record more, the end, and the one place of a label.
use Rattle.std.specs.Prelude.{None, Some}
use Prim.Native.Nat.{ℕ, suc, ◌+◌, ◌-◌, ◌*◌, ◌≤◌, ◌<◌}
use mathlib.Core.Path.{◌≡◌, refl, sym, ap, ◌∙◌}
use mathlib.Core.Bool.{Bool, true, ◌&&◌, cond}
use mathlib.Core.List.{List, [], ◌∷◌}
use native.Mathlib.Nat.{sub-zero}
use native.Mathlib.Numerals.{add-one}
use native.Mathlib.Omega.{arith}
use lib.Dec.{eqb}
use lib.ListN.{get_or, drop}
use lib.Seq.{drop-drop}
use Rattle.records.specs.declared.code.Code.TheVariants.{EXTERN}
use Rattle.records.specs.declared.code.Fields.{Fields}
use Rattle.records.specs.Codes.{readers, code_of}
use Rattle.records.specs.Instructions.{fields_in, fields_ok, lab_with}
use Rattle.records.specs.ReadBack.{code_in}
use Rattle.records.proofs.CodesRead.{ok_code, starts_ok}
use Rattle.machine.specs.Run.{is_lab, places_of, the_one, find, codes_of}
use Rattle.machine.specs.Loop.{ListedCodes, places_from, First}
use Rattle.machine.proofs.Tables.{Each, each}

abbrev Told : ℕ → Type 0
Told k = (label : ℕ) (f : Fields) → is_lab label (get_or readers k (λ (g : Fields). EXTERN g.label) f) ≡ (eqb (suc k) 40 && eqb f.label label)

told_all : Each Told 44
unfolding readers
told_all = ((((((((((((((((((((((((((((((((((((((((((((tt, (λ l f. refl)), (λ l f. refl)), (λ l f. refl)), (λ l f. refl)), (λ l f. refl)), (λ l f. refl)), (λ l f. refl)), (λ l f. refl)), (λ l f. refl)), (λ l f. refl)), (λ l f. refl)), (λ l f. refl)), (λ l f. refl)), (λ l f. refl)), (λ l f. refl)), (λ l f. refl)), (λ l f. refl)), (λ l f. refl)), (λ l f. refl)), (λ l f. refl)), (λ l f. refl)), (λ l f. refl)), (λ l f. refl)), (λ l f. refl)), (λ l f. refl)), (λ l f. refl)), (λ l f. refl)), (λ l f. refl)), (λ l f. refl)), (λ l f. refl)), (λ l f. refl)), (λ l f. refl)), (λ l f. refl)), (λ l f. refl)), (λ l f. refl)), (λ l f. refl)), (λ l f. refl)), (λ l f. refl)), (λ l f. refl)), (λ l f. refl)), (λ l f. refl)), (λ l f. refl)), (λ l f. refl)), (λ l f. refl))

-- LAB is told by a well-formed record's fields
lab_told : (label : ℕ) (f : Fields) → fields_ok f ≡ true → is_lab label (code_of f) ≡ lab_with label f
unfolding code_of
lab_told label f e =
    let k = ok_code f e in
    let n : suc (f.code - 1) ≡ f.code = omega arith in
    each Told 44 told_all (f.code - 1) (omega arith) label f ∙ rw n

module _ (label : ℕ) (s : List ℕ) (n : ℕ) where
  one_more : (m k : ℕ) (t : List ℕ) {b : Bool} → is_lab label (code_in t) ≡ b
      → places_of label (codes_of (suc m) t) k ≡ cond b (k ∷ places_of label (codes_of m (drop 24 t)) (suc k)) (places_of label (codes_of m (drop 24 t)) (suc k))
  unfolding places_of
  one_more m k t e = rw e

  pub places_turn : (k : ℕ) {b : Bool} → ListedCodes s n → k < n → b ≡ lab_with label (fields_in (drop (24 * k) s))
      → places_from label s n k ≡ cond b (k ∷ places_from label s n (k + 1)) (places_from label s n (k + 1))
  places_turn k z h e =
      let m : n - k ≡ suc (n - suc k) = omega arith in
      let j : 24 * k + 24 ≡ 24 * suc k = omega arith in
      let d : drop 24 (drop (24 * k) s) ≡ drop (24 * suc k) s = drop-drop 24 (24 * k) s ∙ ap (λ i. drop i s) j in
      rw (m, add-one k, ← d) (one_more (n - suc k) k (drop (24 * k) s) (lab_told label _ (starts_ok _ (z.starts k h)) ∙ sym e))

  pub places_end : (k : ℕ) → n ≤ k → places_from label s n k ≡ []
  unfolding places_of
  places_end k h = let m : n - k ≡ 0 = omega arith in rw m

  whole : find label (codes_of n s) ≡ the_one (places_from label s n 0)
  whole = rw sub-zero

  pub found_none : First label s n 0 None → None ≡ find label (codes_of n s)
  found_none f = sym (whole ∙ ap the_one f)

  module _ {k : ℕ} (f : First label s n 0 (Some k)) where
    pub found_two : {j : ℕ} → First label s n (k + 1) (Some j) → None ≡ find label (codes_of n s)
    found_two g = sym (whole ∙ ap the_one (f.1 ∙ ap (λ js. k ∷ js) g.1))

    pub found_one : First label s n (k + 1) None → Some k ≡ find label (codes_of n s)
    found_one g = sym (whole ∙ ap the_one (f.1 ∙ ap (λ js. k ∷ js) g))
