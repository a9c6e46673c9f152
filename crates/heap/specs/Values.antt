-- The plain machine's values, and what it means that a variable or a field holds one.
-- From the scope, 'Plain machine of demand 3': linked holds its tag in Snd and its list by Fst, 0 if empty, else the object.
use Rattle.std.specs.Prelude.{Bool, true, false, ◌≡◌, ◌≢◌, List, [], ◌∷◌, ◌++◌, ℕ, zero, suc, length}
use Rattle.heap.specs.Counting.{occ}
use Rattle.heap.specs.Blocks.{Cell, pointers}

mutual
  pub data Value : Type 0 where
    integer : ℕ → Value
    object : ℕ → Values → Value

  pub data Values : Type 0 where
    nil : Values
    cons : Value → Values → Values

abbrev pub count_of : Values → ℕ
count_of nil = 0
count_of (cons v vs) = suc (count_of vs)

abbrev pub appended : Values → Values → Values
appended nil ws = ws
appended (cons v vs) ws = cons v (appended vs ws)

abbrev pub first_of : ℕ → Values → Values
first_of zero vs = nil
first_of (suc n) nil = nil
first_of (suc n) (cons v vs) = cons v (first_of n vs)

abbrev pub rest_of : ℕ → Values → Values
rest_of zero vs = vs
rest_of (suc n) nil = nil
rest_of (suc n) (cons v vs) = rest_of n vs

abbrev pub value_at : ℕ → Values → Value
value_at n nil = integer 0
value_at zero (cons v vs) = v
value_at (suc n) (cons v vs) = value_at n vs

abbrev pub copies : ℕ → Value → Values
copies zero v = nil
copies (suc n) v = cons v (copies n v)

-- a variable for each value, of its kind: `ext v` says that variable v is an integer
abbrev pub KindsFrom : (ℕ → Bool) → ℕ → Values → Type 0
KindsFrom ext v nil = Unit {0}
KindsFrom ext v (cons (integer w) vs) = (ext v ≡ true) × KindsFrom ext (suc v) vs
KindsFrom ext v (cons (object tag ws) vs) = (ext v ≡ false) × KindsFrom ext (suc v) vs

-- an object's values in chunks, one to a block
abbrev pub concat : List (List Cell) → List Cell
concat [] = []
concat (c ∷ chunks) = c ++ concat chunks

abbrev pub lengths : List (List Cell) → List ℕ
lengths [] = []
lengths (c ∷ chunks) = length c ∷ lengths chunks

-- unused fields: every Fst is 0
abbrev pub NoPointers : List Cell → Type 0
NoPointers cs = (b : ℕ) → b ≢ 0 → occ b (pointers cs) ≡ 0

-- The blocks of an object from the first: unused fields, the chunk, and in all but the last the link to the next block.
abbrev pub Object : (ℕ → List Cell) → ℕ → List (List Cell) → Type 0
Object fields p [] = p ≡ 0
Object fields p (c ∷ []) = (p ≢ 0) × (unused : List Cell) × NoPointers unused × (fields p ≡ unused ++ c)
Object fields p (c ∷ d ∷ chunks) =
    (p ≢ 0) × (unused : List Cell) × NoPointers unused × (link : Cell) × (fields p ≡ unused ++ (c ++ (link ∷ []))) × Object fields link.fst (d ∷ chunks)

-- where an object of n values has chunks of the lengths sizes n
abbrev mutual
  pub Holds : (ℕ → List ℕ) → (ℕ → List Cell) → Value → Cell → Type 0
  Holds sizes fields (integer w) c = (c.fst ≡ 0) × (c.snd ≡ w)
  Holds sizes fields (object tag vs) c =
      (c.snd ≡ tag) × (chunks : List (List Cell)) × Object fields c.fst chunks × HoldAll sizes fields vs (concat chunks) × (lengths chunks ≡ sizes (count_of vs))

  pub HoldAll : (ℕ → List ℕ) → (ℕ → List Cell) → Values → List Cell → Type 0
  HoldAll sizes fields nil cs = cs ≡ []
  HoldAll sizes fields (cons v vs) cs = (c : Cell) × (rest : List Cell) × (cs ≡ c ∷ rest) × Holds sizes fields v c × HoldAll sizes fields vs rest
