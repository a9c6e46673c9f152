-- The first bad or surplus record of a list of bytes, for records of any kind and size.
-- From the scope, 'Instruction record': the place is the first bad or surplus record's, and record places count from 1.
use Rattle.records.specs.declared.check.Malformed.{Malformed}
use Rattle.std.specs.Prelude.{ℕ, zero, suc, ◌+◌, ◌*◌, ◌-◌, ◌/◌, Bool, ◌&&◌, cond, List, [], ◌∷◌, ltb, length, drop, Err, Ok, Result}
use Rattle.records.specs.Causes.{ACCEPTED, MALFORMED}

-- bytes that are no list of records: the place of the first bad or surplus one
abbrev pub malformed : ℕ → Malformed
malformed place = record { place = place }

-- of n records from place k + 1 on, the first that is past the limit, or that the test refuses; the test sees the bytes from the record's start
unfoldable pub first_bad : (List ℕ → Bool) → ℕ → ℕ → List ℕ → ℕ → ℕ → Result ℕ Malformed
first_bad ok size limit s k zero = Ok k
first_bad ok size limit s k (suc n) =
    cond (ltb k limit && ok (drop (size * k) s)) (first_bad ok size limit s (suc k) n) (Err (malformed (suc k)))

-- how many records s has, a part record among them
abbrev pub places : ℕ → List ℕ → ℕ
places size s = (length s + (size - 1)) / size

-- the whole list checked: Good with the number of records, or Malformed with the place
unfoldable pub checked : (List ℕ → Bool) → ℕ → ℕ → List ℕ → Result ℕ Malformed
checked ok size limit s = first_bad ok size limit s 0 (places size s)

-- by the number of records where the list is good, or by the place of the bad one
abbrev pub on_checked : {A : Type 0} → Result ℕ Malformed → (ℕ → A) → (ℕ → A) → A
on_checked (Ok n) good bad = good n
on_checked (Err m) good bad = bad m.place

-- the scope's number and values for each answer: 0 where the list is accepted
abbrev pub checked_cause : Result ℕ Malformed → List ℕ
checked_cause (Ok n) = ACCEPTED ∷ []
checked_cause (Err m) = MALFORMED ∷ m.place ∷ []
