-- Blocks, their two words of a field, and the heap as an abstract memory with the heads of its two free lists.
-- From the scope, 'Blocks and objects'; where blocks lie and how many fields they have stay open.
use Rattle.std.specs.Prelude.{◌≡◌, ◌≢◌, List, [], ◌∷◌, ℕ, zero, suc}

-- where the blocks lie: block i at its address
pub record Layout : Type 0 where
  pub address : ℕ → ℕ
  pub nonzero : (i : ℕ) → address i ≢ 0
  pub distinct : (i j : ℕ) → address i ≡ address j → i ≡ j

-- the addresses of the first n blocks
abbrev pub blocks : Layout → ℕ → List ℕ
blocks L zero = []
blocks L (suc n) = L.address n ∷ blocks L n

-- Fst and Snd of a variable or of a field
pub record Cell : Type 0 where
  pub fst : ℕ
  pub snd : ℕ

abbrev pub cell : ℕ → ℕ → Cell
cell pointer word = record { fst = pointer; snd = word }

-- the pointers among them, nulls too
abbrev pub pointers : List Cell → List ℕ
pointers [] = []
pointers (c ∷ cs) = c.fst ∷ pointers cs

-- the pointers in a block's fields
abbrev pub children : (ℕ → List Cell) → ℕ → List ℕ
children fields b = pointers (fields b)

-- the heap: each block's count or next pointer, its fields, and HEAP and FREE
pub record Memory : Type 0 where
  pub header : ℕ → ℕ
  pub fields : ℕ → List Cell
  pub linear_head : ℕ
  pub lazy_head : ℕ

-- a free list: its blocks by their next pointers, from the first to the word that ends it
abbrev pub Chain : (ℕ → ℕ) → ℕ → List ℕ → ℕ → Type 0
Chain header first [] end = first ≡ end
Chain header first (b ∷ bs) end = (first ≡ b) × Chain header (header b) bs end
