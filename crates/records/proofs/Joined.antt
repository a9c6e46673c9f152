-- Lists of records of one kind, from what holds of one record: each is read at its place, the list is accepted, and a list that is accepted is the records of its items.
use Rattle.std.specs.Prelude.{Ok}
use Prim.Native.Nat.{ℕ, zero, suc, ◌+◌, ◌*◌, ◌≤◌, ◌<◌}
use mathlib.Core.Path.{◌≡◌, sym, ◌∙◌}
use mathlib.Core.Bool.{Bool, true}
use mathlib.Core.List.{List, [], ◌∷◌, ◌++◌, append_assoc}
use native.Mathlib.Nat.{zero-add, add-zero, add-suc, suc-add, add_comm, mul-zero, mul-suc, le_of_suc-le-suc, not-suc-le-zero}
use native.Mathlib.Omega.{arith}
use lib.ListN.{length, get_or, drop, length-append, drop_of_length-le}
use lib.Seq.{drop-cons, drop_at, drop-drop}
use borrow.Author.Tests.{lt-ltb}
use Rattle.records.specs.Checked.{first_bad, places, checked}
use Rattle.records.specs.ReadBack.{Each, Bytes, joined, items}
use Rattle.records.proofs.Checking.{all_checked, all_passed}
use Rattle.records.proofs.Each.{each_at, each_drop}

-- the records of one kind: their size, the bytes of an item, whether a list starts with a record, the item of that record, and which items have one
pub record Laws {A : Type 0} (size : ℕ) (bytes : A → List ℕ) (starts : List ℕ → Bool) (item : List ℕ → A) (W : A → Type 0) : Type 0 where
  pub long : (x : A) → length (bytes x) ≡ size
  pub good : (x : A) (rest : List ℕ) → W x → starts (bytes x ++ rest) ≡ true
  pub same : (x : A) (rest : List ℕ) → W x → item (bytes x ++ rest) ≡ x
  pub back : (s : List ℕ) → starts s ≡ true → Bytes s → bytes (item s) ++ drop size s ≡ s

module _ {A : Type 0} {size : ℕ} {bytes : A → List ℕ} {starts : List ℕ → Bool} {item : List ℕ → A} {W : A → Type 0}
    (laws : Laws size bytes starts item W) where
  -- the records from the k-th on
  from : (xs : List A) (rest : List ℕ) (k : ℕ) → k ≤ length xs → drop (size * k) (joined bytes xs ++ rest) ≡ joined bytes (drop k xs) ++ rest
  from xs rest zero h = rw mul-zero
  from [] rest (suc k) h = absurd (not-suc-le-zero h)
  from (x ∷ xs) rest (suc k) h =
      rw (mul-suc, add_comm (size * k) size, ← drop-drop, append_assoc, drop_at (bytes x) (joined bytes xs ++ rest) size (laws.long x))
      (from xs rest k (le_of_suc-le-suc h))

  module _ (xs : List A) (rest : List ℕ) (k : ℕ) (d : A) (each : Each W xs) (h : k < length xs) where
    record_at : drop (size * k) (joined bytes xs ++ rest) ≡ bytes (get_or xs k d) ++ (joined bytes (drop (suc k) xs) ++ rest)
    record_at = rw (from xs rest k (omega arith), drop-cons xs k d, append_assoc)

    pub starts_at : starts (drop (size * k) (joined bytes xs ++ rest)) ≡ true
    starts_at = rw record_at (laws.good (get_or xs k d) (joined bytes (drop (suc k) xs) ++ rest) (each_at W xs k d each h))

    pub item_at_lem : item (drop (size * k) (joined bytes xs ++ rest)) ≡ get_or xs k d
    item_at_lem = rw record_at (laws.same (get_or xs k d) (joined bytes (drop (suc k) xs) ++ rest) (each_at W xs k d each h))

  pub joined_length : (xs : List A) → length (joined bytes xs) ≡ size * length xs
  joined_length [] = rw mul-zero
  joined_length (x ∷ xs) = rw (length-append, laws.long x, joined_length xs, mul-suc) (omega arith)

  -- the check from place k + 1 on, where the rest of the list is records
  all_good : (limit : ℕ) (s : List ℕ) (xs : List A) (k : ℕ) → Each W xs → drop (size * k) s ≡ joined bytes xs → k + length xs ≤ limit
      → first_bad starts size limit s k (length xs) ≡ Ok (k + length xs)
  unfolding first_bad
  all_good limit s [] k each e h = rw add-zero
  all_good limit s (x ∷ xs) k each e h =
      rw (lt-ltb k limit (omega arith), e, laws.good x (joined bytes xs) each.0, add-suc, ← suc-add k)
      (all_good limit s xs (suc k) each.1 (rw (mul-suc, ← drop-drop, e) (drop_at (bytes x) (joined bytes xs) size (laws.long x))) (omega arith))

  pub accepted : (limit : ℕ) (xs : List A) → Each W xs → length xs ≤ limit → places size (joined bytes xs) ≡ length xs
      → checked starts size limit (joined bytes xs) ≡ Ok (length xs)
  unfolding checked
  accepted limit xs each h e =
      rw e (rw zero-add at (all_good limit (joined bytes xs) xs 0 each (rw mul-zero) (rw zero-add h)))

  -- whole records from the k-th on are the records of their items
  all_written : (s : List ℕ) → Bytes s → (n k : ℕ) → length s ≤ size * (k + n) → ((i : ℕ) → k ≤ i → i < k + n → starts (drop (size * i) s) ≡ true)
      → joined bytes (items size item n (drop (size * k) s)) ≡ drop (size * k) s
  all_written s byte zero k h each = sym (drop_of_length-le s (rw add-zero at h))
  all_written s byte (suc n) k h each =
      let t = drop (size * k) s in
      let q = rw (mul-suc, ← drop-drop) at (all_written s byte n (suc k) (rw (suc-add, ← add-suc) h) (λ i a b. each i (omega arith) (omega arith))) in
      rw q (laws.back t (each k (omega arith) (omega arith)) (each_drop (λ b. b < 256) (size * k) s byte))

  pub each_written : (n : ℕ) (s : List ℕ) → Bytes s → length s ≤ size * n → ((i : ℕ) → i < n → starts (drop (size * i) s) ≡ true)
      → joined bytes (items size item n s) ≡ s
  each_written n s byte h each = rw mul-zero at (all_written s byte n 0 (rw zero-add h) (λ i a b. each i (omega arith)))

  pub written : (limit n : ℕ) (s : List ℕ) → Bytes s → length s ≤ size * places size s → checked starts size limit s ≡ Ok n
      → joined bytes (items size item n s) ≡ s
  unfolding checked
  written limit n s byte h e =
      let m : n ≡ places size s = all_checked starts size limit s 0 (places size s) n e ∙ zero-add (places size s) in
      each_written n s byte (rw m h) (λ i l. all_passed starts size limit s 0 (places size s) n e i (omega arith) l)
