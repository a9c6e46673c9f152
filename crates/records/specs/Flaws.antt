-- What is told of a context is the earliest that is bad in it: the scope, 'Job 2', for every list of bytes.
use Rattle.std.specs.Prelude.{ℕ, suc, ◌*◌, ◌/◌, ◌<◌, ◌≡◌, true, false, List, length, drop, Ok, Err}
use Rattle.records.specs.declared.context.Flaw.TheVariants.{Length, Mark, Kind}
use Rattle.records.specs.Contexts.{marked, kind_ok, length_ok, checked_context}

-- the first k bindings are good
abbrev pub GoodBefore : List ℕ → ℕ → Type 0
GoodBefore s k = (i : ℕ) → i < k → (marked (drop (8 * i) s) ≡ true) × (kind_ok (drop (8 * i) s) ≡ true)

pub record BadBindingsAreTold : Type 0 where
  -- 15 for the length, whatever the bindings are
  pub length_first : (s : List ℕ) → length_ok s ≡ false → checked_context s ≡ Err Length
  -- then, at the earliest bad binding, 16 for its mark, whatever its kind is
  pub mark_next :
      (s : List ℕ) (k : ℕ) → length_ok s ≡ true → 8 * k < length s → GoodBefore s k
      → marked (drop (8 * k) s) ≡ false → checked_context s ≡ Err (Mark (suc k))
  -- and 17 for its kind or zero byte
  pub kind_last :
      (s : List ℕ) (k : ℕ) → length_ok s ≡ true → 8 * k < length s → GoodBefore s k
      → marked (drop (8 * k) s) ≡ true → kind_ok (drop (8 * k) s) ≡ false → checked_context s ≡ Err (Kind (suc k))
  -- all else is accepted
  pub else_good : (s : List ℕ) → length_ok s ≡ true → GoodBefore s (length s / 8) → checked_context s ≡ Ok (length s / 8)
