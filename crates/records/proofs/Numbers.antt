-- Numbers in bytes, read one by one, in two halves, and from a part of a list.
use Prim.Native.Nat.{ℕ, zero, suc, ◌+◌, ◌*◌}
use mathlib.Core.Path.{◌≡◌, refl}
use mathlib.Core.List.{List}
use native.Mathlib.Nat.{add-suc}
use native.Mathlib.Numerals.{towards_suc}
use native.Mathlib.Omega.{arith}
use lib.ListN.{get_or, drop}
use lib.Seq.{get_or-drop}
use Rattle.records.specs.Bytes.{number}

module _ (s : List ℕ) (i : ℕ) where
  pub number_quad : {r : ℕ} → r ≡ get_or s i 0 + 256 * (get_or s (i + 1) 0 + 256 * (get_or s (i + 2) 0 + 256 * get_or s (i + 3) 0)) → r ≡ number 4 s i
  unfolding number
  number_quad e = let n = simp towards_suc at e in omega arith

  pub number_halves : {l h r : ℕ} → l ≡ number 4 s i → h ≡ number 4 s (i + 4) → r ≡ l + 4294967296 * h → r ≡ number 8 s i
  unfolding number
  number_halves el eh er = let n = simp towards_suc at eh in omega arith

  -- from index j of the part that starts at i
  pub number_drop : (k j : ℕ) → number k (drop i s) j ≡ number k s (i + j)
  unfolding number
  number_drop zero j = refl
  number_drop (suc k) j = rw (get_or-drop, number_drop k (suc j), add-suc)
