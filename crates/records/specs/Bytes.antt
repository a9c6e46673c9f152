-- Numbers as bytes, lowest first, and bytes stored in an output. As the scope has all fields: little-endian.
use Rattle.std.specs.Prelude.{ℕ, zero, suc, ◌+◌, ◌*◌, ◌/◌, ◌%◌, cond, List, [], ◌∷◌, leb, length, get_or}
use Rattle.std.proofs.lemmas.List.Edits.{sets}

-- the k bytes of v
unfoldable pub le : ℕ → ℕ → List ℕ
le zero v = []
le (suc k) v = v % 256 ∷ le k (v / 256)

-- the number in the k bytes from index i of s
unfoldable pub number : ℕ → List ℕ → ℕ → ℕ
number zero s i = 0
number (suc k) s i = get_or s i 0 + 256 * number k s (suc i)

-- the output o with the bytes bs from index i on, where they fit whole; else o as it was
unfoldable pub stored : List ℕ → ℕ → List ℕ → List ℕ
stored o i bs = cond (leb (i + length bs) (length o)) (sets o i bs) o
