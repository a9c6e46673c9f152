-- The first bytes of a list copied, one after the other.
use Prim.Native.Nat.{ℕ, ◌+◌, ◌≤◌, ◌<◌}
use mathlib.Core.Path.{◌≡◌}
use mathlib.Core.List.{List}
use native.Mathlib.Nat.{add-zero, add-suc}
use native.Mathlib.Numerals.{add-one}
use native.Mathlib.Omega.{arith}
use lib.ListN.{length, get_or, set, take, drop, drop_of_length-le}
use lib.Seq.{sets, drop-cons, get_or-take, length-take-le}

-- one byte copied of those left
pub next_byte : (o s : List ℕ) (at i count : ℕ) → i < count → count ≤ length s
    → sets o (at + i) (drop i (take count s)) ≡ sets (set o (at + i) (get_or s i 0)) (at + (i + 1)) (drop (i + 1) (take count s))
next_byte o s at i count h l =
    let m = length-take-le count s l in
    rw (drop-cons (take count s) i 0 (omega arith), get_or-take count s i 0 h, add-one i, add-suc at i)

pub no_byte : (o s : List ℕ) (at : ℕ) → sets o (at + 0) (drop 0 s) ≡ sets o at s
no_byte o s at = rw add-zero

pub copied : (o s t : List ℕ) (at count : ℕ) {i : ℕ} → count ≤ i → count ≤ length s → sets o (at + i) (drop i (take count s)) ≡ t → o ≡ t
copied o s t at count {i} h l e =
    let m = length-take-le count s l in
    let z : length (take count s) ≤ i = omega arith in
    rw (drop_of_length-le (take count s) z) at e
