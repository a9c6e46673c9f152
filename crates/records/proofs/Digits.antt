-- Numbers and their bytes: the number in the k bytes of v is v, and the bytes of the number in k bytes are those bytes.
use Prim.Native.Nat.{ℕ, zero, suc, ◌+◌, ◌*◌, ◌/◌, ◌%◌, ◌^◌, ◌≤◌, ◌<◌}
use mathlib.Core.Path.{◌≡◌, sym, ◌∙◌}
use mathlib.Core.List.{List, ◌∷◌, ◌++◌}
use native.Mathlib.Nat.{add-zero, add-suc, suc-add, pow-suc}
use native.Mathlib.Omega.{arith}
use lib.ListN.{length, get_or, drop}
use lib.Seq.{drop-cons}
use Rattle.records.specs.Bytes.{le, number}
use Rattle.records.specs.ReadBack.{Bytes}
use Rattle.records.proofs.Each.{each_at}
use Rattle.records.proofs.Numbers.{number_drop}

pub number_le : (k v : ℕ) → v < 256 ^ k → number k (le k v) 0 ≡ v
unfolding number le
number_le zero v h = omega arith
number_le (suc k) v h = rw (← (number_drop (v % 256 ∷ le k (v / 256)) 1 k 0), number_le k (v / 256) (omega arith)) (omega arith)

digit : (g m : ℕ) → g < 256 → ((g + 256 * m) % 256 ≡ g) × ((g + 256 * m) / 256 ≡ m)
digit g m h = omega arith

pub le_number : (s : List ℕ) → Bytes s → (k i : ℕ) → i + k ≤ length s → le k (number k s i) ++ drop (i + k) s ≡ drop i s
unfolding number le
le_number s bytes zero i h = rw add-zero
le_number s bytes (suc k) i h =
    let l : i < length s = omega arith in
    let d = digit (get_or s i 0) (number k s (suc i)) (each_at (λ b. b < 256) s i 0 bytes l) in
    rw (d.0, d.1, add-suc, ← suc-add i, le_number s bytes k (suc i) (omega arith)) (sym (drop-cons s i 0 l))

-- the number in k bytes is below 256^k
pub number_below : (s : List ℕ) → Bytes s → (k i : ℕ) → i + k ≤ length s → number k s i < 256 ^ k
unfolding number
number_below s bytes zero i h = omega arith
number_below s bytes (suc k) i h =
    let g = each_at (λ b. b < 256) s i 0 bytes (omega arith) in
    let m = number_below s bytes k (suc i) (omega arith) in
    rw (pow-suc 256 k) (omega arith)

-- a list by its first four bytes, which start a record
pub first_four : (s : List ℕ) → 4 ≤ length s → get_or s 0 0 ∷ get_or s 1 0 ∷ get_or s 2 0 ∷ get_or s 3 0 ∷ drop 4 s ≡ s
first_four s h =
    sym (drop-cons s 0 0 (omega arith) ∙ rw (drop-cons s 1 0 (omega arith), drop-cons s 2 0 (omega arith), drop-cons s 3 0 (omega arith)))
