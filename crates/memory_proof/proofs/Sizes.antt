-- How many blocks an object has, and that they are just enough for its values.
use mathlib.Core.List.{List, ◌∷◌}
use mathlib.Core.Path.{◌≡◌}
use Prim.Native.Nat.{ℕ, zero, suc, ◌+◌, ◌-◌, ◌*◌, ◌≤◌, ◌<◌}
use native.Mathlib.Nat.{div-add-mod, mod-lt}
use native.Mathlib.Omega.{arith}
use lib.ListN.{length}
use Rattle.memory.specs.Objects.{chunks, other_sizes}

pub other_sizes_length : (c m n : ℕ) (xs : List ℕ) → length (other_sizes c m n xs) ≡ m + length xs
other_sizes_length c zero n xs = omega arith
other_sizes_length c (suc m) n xs = omega (arith, other_sizes_length c m (n - c) ((n - (n - c)) ∷ xs))

-- m blocks of c are just enough for n values
pub record Chunked (c m n : ℕ) : Type 0 where
  pub enough : n ≤ c * m
  pub needed : c * m < n + c

pub chunks_chunked : (c n : ℕ) → 1 ≤ c → Chunked c (chunks c n) n
chunks_chunked c n h =
    let d = div-add-mod (n + (c - 1)) c in
    let l = mod-lt (n + (c - 1)) {m = c} h in
    record { enough = omega arith; needed = omega arith }

pub chunked_next : {c m n : ℕ} → Chunked c (suc m) n → Chunked c m (n - c) × (1 ≤ n)
chunked_next h = (record { enough = omega (arith, h.enough); needed = omega (arith, h.needed) }, omega (arith, h.needed))
