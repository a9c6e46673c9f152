-- Something true of each register of a list, and the registers that print_i64 saves.
use Prim.Native.Nat.{ℕ, zero, suc, ◌+◌, ◌*◌, ◌≤◌, ◌<◌}
use mathlib.Core.Path.{◌≡◌, sym}
use mathlib.Core.Bool.{Bool, true, false}
use mathlib.Core.List.{List, [], ◌∷◌, ◌++◌}
use native.Mathlib.Decide.{dec_lt}
use native.Mathlib.Omega.{arith}
use lib.ListN.{take, drop}
use Rattle.records.specs.ReadBack.{Each}
use Rattle.records.proofs.Conditions.{never}
use Rattle.records.proofs.Each.{each_append}
use Rattle.print_i64.specs.Registers.{registers_of, registers_to}

module _ (P : ℕ → Type 0) where
  pub each_take : (n : ℕ) (rs : List ℕ) → Each P rs → Each P (take n rs)
  each_take zero rs a = tt
  each_take (suc n) [] a = tt
  each_take (suc n) (r ∷ rs) a = (a.0, each_take n rs a.1)

  pub each_join : (n : ℕ) (rs : List ℕ) → Each P (take n rs) → Each P (drop n rs) → Each P rs
  each_join zero rs a b = b
  each_join (suc n) [] a b = tt
  each_join (suc n) (r ∷ rs) a b = (a.0, each_join n rs a.1 b)

  each_first : (rs qs : List ℕ) → Each P (rs ++ qs) → Each P rs
  each_first [] qs a = tt
  each_first (r ∷ rs) qs a = (a.0, each_first rs qs a.1)

  each_second : (rs qs : List ℕ) → Each P (rs ++ qs) → Each P qs
  each_second [] qs a = a
  each_second (r ∷ rs) qs a = each_second rs qs a.1

  pub each_both : (Q R : ℕ → Type 0) (rs : List ℕ) → ((r : ℕ) → P r → Q r → R r) → Each P rs → Each Q rs → Each R rs
  each_both Q R [] f a b = tt
  each_both Q R (r ∷ rs) f a b = (f r a.0 b.0, each_both Q R rs f a.1 b.1)

  -- the Snd of a variable, and the Fst of one that is not an integer
  pub saved_of : (ext : ℕ → Bool) (k v : ℕ) → v < k → Each P (registers_to ext k) → P (5 + 2 * v) × (ext v ≡ false → P (4 + 2 * v))
  saved_of ext zero v h a = absurd (omega arith)
  saved_of ext (suc k) v h a = by (dec_lt v k) (λ l. saved_of ext k v l (each_first (registers_to ext k) (registers_of (ext k) k) a))
    where
      last : (b : Bool) → Each P (registers_of b k) → P (5 + 2 * k) × (b ≡ false → P (4 + 2 * k))
      last true a = (a.0, λ e. never (sym e))
      last false a = (a.1.0, λ e. a.0)

      by : Dec (v < k) → (v < k → P (5 + 2 * v) × (ext v ≡ false → P (4 + 2 * v))) → P (5 + 2 * v) × (ext v ≡ false → P (4 + 2 * v))
      by (yes l) below = below l
      by (no l) below =
          let e : v ≡ k = omega arith in
          rw e (last (ext k) (each_second (registers_to ext k) (registers_of (ext k) k) a))

-- registers that a call changes and that hold variables
abbrev pub Low : ℕ → Type 0
Low r = (4 ≤ r) × (r < 12)

pub registers_low : (ext : ℕ → Bool) (k : ℕ) → k ≤ 4 → Each Low (registers_to ext k)
registers_low ext zero h = tt
registers_low ext (suc k) h = each_append Low (registers_to ext k) (registers_of (ext k) k) (registers_low ext k (omega arith)) (by (ext k))
  where
    by : (b : Bool) → Each Low (registers_of b k)
    by true = ((omega arith, omega arith), tt)
    by false = ((omega arith, omega arith), ((omega arith, omega arith), tt))
