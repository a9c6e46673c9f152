-- Bytes put into an output at an index, whether or not they fit: what the functions that write text promise one another.
use Rattle.std.specs.Prelude.{ℕ, ◌+◌, ◌≤◌, ◌≡◌, List, length}
use Rattle.std.proofs.lemmas.List.Edits.{sets}

-- an index up to which no sum wraps
abbrev pub farthest : ℕ
farthest = 0x4000_0000_0000_0000

-- bs put at index i of the output o: o' has those that fit, and j is the index past all of them, at most so many from i
pub record Puts (most : ℕ) (o : List ℕ) (i : ℕ) (o' : List ℕ) (j : ℕ) (bs : List ℕ) : Type 0 where
  pub bytes : o' ≡ sets o i bs
  pub next : j ≡ i + length bs
  pub few : j ≤ i + most
