-- Values held with the blocks that links name told apart from those that values name: `linked` is 1 at the former. This is more than the scope asks of a value that is held;
-- which blocks `linked` marks is the proof's to say, and to say more would only ask for more.
use Rattle.std.specs.Prelude.{◌≡◌, ◌≢◌, List, [], ◌∷◌, ◌++◌, ℕ, ◌+◌, ◌≤◌}
use Rattle.heap.specs.Counting.{occ, refs}
use Rattle.heap.specs.Blocks.{Cell, pointers, children, Memory}
use Rattle.heap.specs.Values.{Value, integer, object, Values, nil, cons, count_of, concat, lengths, NoPointers}

-- the blocks of an object, each link's block marked
abbrev pub ObjectApart : (ℕ → List Cell) → (ℕ → ℕ) → ℕ → List (List Cell) → Type 0
ObjectApart fields linked p [] = p ≡ 0
ObjectApart fields linked p (c ∷ []) = (p ≢ 0) × (unused : List Cell) × NoPointers unused × (fields p ≡ unused ++ c)
ObjectApart fields linked p (c ∷ d ∷ chunks) =
    (p ≢ 0) × (unused : List Cell) × NoPointers unused × (link : Cell) × (fields p ≡ unused ++ (c ++ (link ∷ []))) × (linked link.fst ≡ 1) × ObjectApart fields linked link.fst (d ∷ chunks)

-- a value's object is no link's block
abbrev mutual
  pub HoldsApart : (ℕ → List ℕ) → (ℕ → List Cell) → (ℕ → ℕ) → Value → Cell → Type 0
  HoldsApart sizes fields linked (integer w) c = (c.fst ≡ 0) × (c.snd ≡ w)
  HoldsApart sizes fields linked (object tag vs) c =
      (c.snd ≡ tag) × (c.fst ≢ 0 → linked c.fst ≡ 0) × (chunks : List (List Cell)) × ObjectApart fields linked c.fst chunks × HoldAllApart sizes fields linked vs (concat chunks) × (lengths chunks ≡ sizes (count_of vs))

  pub HoldAllApart : (ℕ → List ℕ) → (ℕ → List Cell) → (ℕ → ℕ) → Values → List Cell → Type 0
  HoldAllApart sizes fields linked nil cs = cs ≡ []
  HoldAllApart sizes fields linked (cons v vs) cs = (c : Cell) × (rest : List Cell) × (cs ≡ c ∷ rest) × HoldsApart sizes fields linked v c × HoldAllApart sizes fields linked vs rest

-- the marks of a heap whose lazily freed and held blocks are these: a marked block has one pointer at most
pub record LinksApart (sizes : ℕ → List ℕ) (M : Memory) (variables : List Cell) (vs : Values) (lazy held : List ℕ) : Type 0 where
  pub linked : ℕ → ℕ
  pub one_pointer : (b : ℕ) → b ≢ 0 → linked b ≢ 0 → occ b (pointers variables) + refs (children M.fields) b lazy + refs (children M.fields) b held ≤ 1
  pub holds : HoldAllApart sizes M.fields linked vs variables
