-- What an accepted list of records is known to hold: at most 2,730 records, each whole and well formed.
use Rattle.std.specs.Prelude.{Err, Ok}
use Prim.Native.Nat.{ℕ, zero, suc, ◌+◌, ◌*◌, ◌-◌, ◌≤◌, ◌<◌}
use mathlib.Core.Path.{◌≡◌, refl, sym, subst}
use mathlib.Core.Bool.{Bool, true, false, ◌&&◌, cond}
use mathlib.Core.Logic.{⊎_elim}
use mathlib.Core.List.{List}
use native.Mathlib.Nat.{eq-or-lt_of_le, eq-zero-or-pos}
use native.Mathlib.Omega.{arith}
use lib.Dec.{ltb}
use lib.ListN.{length, drop}
use borrow.Author.Tests.{ltb-true}
use Rattle.records.specs.declared.code.Fields.{Fields}
use Rattle.records.specs.Checked.{first_bad, checked, malformed}
use Rattle.records.specs.Instructions.{fields_in, code_starts}
use Rattle.records.proofs.Conditions.{and_left, and_right}
use Rattle.records.proofs.CodesRead.{ok_code, starts_ok, starts_room}
use Rattle.listing.specs.Listing.{checked_list}

module _ (ok : List ℕ → Bool) (size limit : ℕ) (s : List ℕ) where
  abbrev Passes : ℕ → Type 0
  Passes j = (j < limit) × (ok (drop (size * j) s) ≡ true)

  -- one record passes, or the check ends there
  this_one : (n k m j : ℕ) (b : Bool) → ltb k limit && ok (drop (size * k) s) ≡ b
      → cond b (first_bad ok size limit s (suc k) n) (Err (malformed (suc k))) ≡ Ok m
      → k ≤ j → (first_bad ok size limit s (suc k) n ≡ Ok m → suc k ≤ j → Passes j) → Passes j
  this_one n k m j true t e l rest =
      let here : Passes k = (ltb-true k limit (and_left (ltb k limit) (ok (drop (size * k) s)) t), and_right (ltb k limit) (ok (drop (size * k) s)) t) in
      ⊎_elim (λ q. subst Passes q here) (λ q. rest e q) (eq-or-lt_of_le l)
  this_one n k m j false t e l rest = let z : ◌≡◌ {A = ℕ} 0 1 = cc in absurd (omega arith)

  -- of the records from place k + 1 on that a check passes, record j is below the limit and well formed
  passes : (n k m j : ℕ) → first_bad ok size limit s k n ≡ Ok m → k ≤ j → j < m → Passes j
  unfolding first_bad
  passes zero k m j e l h = let z : k ≡ m = cc in absurd (omega arith)
  passes (suc n) k m j e l h = this_one n k m j (ltb k limit && ok (drop (size * k) s)) refl e l (λ r q. passes n (suc k) m j r q h)

module _ (s : List ℕ) (n : ℕ) (accepted : checked_list s ≡ Ok n) where
  pub record_passes : (k : ℕ) → k < n → (k < 2730) × (code_starts (drop (24 * k) s) ≡ true)
  unfolding checked
  record_passes k h = passes code_starts 24 2730 s _ 0 n k accepted (omega arith) h

  pub few_records : n ≤ 2730
  few_records = ⊎_elim (λ z. omega arith) (λ p. let h = (record_passes (n - 1) (omega arith)).0 in omega arith) (eq-zero-or-pos n)

  module _ (k : ℕ) (h : k < n) where
    pub record_whole : 24 * k + 24 ≤ length s
    record_whole = starts_room s (24 * k) (sym (record_passes k h).1) refl

    pub record_code : {f : Fields} → f ≡ fields_in (drop (24 * k) s) → (1 ≤ f.code) × (f.code ≤ 44)
    record_code e = rw e (ok_code (fields_in (drop (24 * k) s)) (starts_ok (drop (24 * k) s) (record_passes k h).1))
