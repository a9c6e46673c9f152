-- The orders' effect on variables and heap, the plain machine beside it, and runs of orders from the fresh heap.
-- From the scope, 'Order record' and 'Plain machine of demand 3'. A compute appends an integer as put does; print and refused orders change nothing.
use Rattle.std.specs.Prelude.{◌≡◌, ◌⊎◌, List, [], ◌∷◌, ◌++◌, ℕ, ◌-◌, length, replicate}
use Rattle.heap.specs.Blocks.{Layout, Cell, cell, Memory}
use Rattle.heap.specs.Values.{Value, integer, object, Values, nil, cons, count_of, appended, first_of, rest_of, value_at, copies, concat, lengths}
use Rattle.heap.specs.Operations.{Erase, StoreObject, ReadObject, ReleaseObject, Share, ShareLoad, with_headers, with_lazy}

pub data HeapOrder : Type 0 where
  put : ℕ → HeapOrder
  copy : ℕ → ℕ → HeapOrder
  drop : HeapOrder
  store : ℕ → ℕ → HeapOrder
  load : ℕ → HeapOrder

abbrev pub list_of : Value → Values
list_of (integer w) = nil
list_of (object tag vs) = vs

-- the plain machine
unfoldable pub plain : HeapOrder → Values → Values
plain (put w) vs = appended vs (cons (integer w) nil)
plain (copy a n) vs = appended vs (copies n (value_at a vs))
plain drop vs = first_of (count_of vs - 1) vs
plain (store n tag) vs = appended (first_of (count_of vs - n) vs) (cons (object tag (rest_of (count_of vs - n) vs)) nil)
plain (load n) vs = appended (first_of (count_of vs - 1) vs) (list_of (value_at (count_of vs - 1) vs))

-- a load names as many values as its object was stored with
unfoldable pub Legal : HeapOrder → Values → Type 0
Legal (put w) vs = Unit {0}
Legal (copy a n) vs = Unit {0}
Legal drop vs = Unit {0}
Legal (store n tag) vs = Unit {0}
Legal (load n) vs = (tag : ℕ) × (ws : Values) × (value_at (count_of vs - 1) vs ≡ object tag ws) × (count_of ws ≡ n)

-- what an order does to the heap and to the variables
pub data Performs (sizes : ℕ → List ℕ) (L : Layout) (M : Memory) : HeapOrder → List Cell → Memory → List Cell → Type 0 where
  puts : (w : ℕ) (xs : List Cell) → Performs sizes L M (put w) xs M (xs ++ (cell 0 w ∷ []))
  makes_copies : (xs ys : List Cell) (c : Cell) (n : ℕ) (header' : ℕ → ℕ) → Share (replicate n c.fst) M.header header'
      → Performs sizes L M (copy (length xs) n) (xs ++ (c ∷ ys)) (with_headers M header') ((xs ++ (c ∷ ys)) ++ replicate n c)
  drops : (xs : List Cell) (c : Cell) (header' : ℕ → ℕ) (lazy-head' : ℕ) → Erase c.fst M.header M.lazy_head header' lazy-head'
      → Performs sizes L M drop (xs ++ (c ∷ [])) (with_lazy M header' lazy-head') xs
  stores_none : (xs : List Cell) (tag : ℕ) → Performs sizes L M (store 0 tag) xs M (xs ++ (cell 0 tag ∷ []))
  stores_some : (xs c : List Cell) (chunks : List (List Cell)) (M' : Memory) (p tag : ℕ) → lengths (c ∷ chunks) ≡ sizes (length (concat (c ∷ chunks))) → StoreObject L M c chunks M' p
      → Performs sizes L M (store (length (concat (c ∷ chunks))) tag) (xs ++ concat (c ∷ chunks)) M' (xs ++ (cell p tag ∷ []))
  loads_none : (xs : List Cell) (c : Cell) → Performs sizes L M (load 0) (xs ++ (c ∷ [])) M xs
  loads_last : (xs : List Cell) (c : Cell) (n : ℕ) (d : List Cell) (chunks : List (List Cell)) (M' : Memory) → lengths (d ∷ chunks) ≡ sizes n → ReadObject M.fields c.fst d chunks
      → M.header c.fst ≡ 0 → ReleaseObject M c.fst (d ∷ chunks) M' → Performs sizes L M (load n) (xs ++ (c ∷ [])) M' (xs ++ concat (d ∷ chunks))
  loads_shared : (xs : List Cell) (c : Cell) (n : ℕ) (d : List Cell) (chunks : List (List Cell)) (header' : ℕ → ℕ) → lengths (d ∷ chunks) ≡ sizes n → ReadObject M.fields c.fst d chunks
      → ShareLoad c.fst (d ∷ chunks) M.header header' → Performs sizes L M (load n) (xs ++ (c ∷ [])) (with_headers M header') (xs ++ concat (d ∷ chunks))

-- the heap and the variables, and the plain machine's values
pub record HeapState : Type 0 where
  pub memory : Memory
  pub variables : List Cell
  pub values : Values

-- all headers zero, HEAP at the first block and FREE at the second
pub record Fresh (L : Layout) (M : Memory) : Type 0 where
  pub zeroed : (b : ℕ) → M.header b ≡ 0
  pub first : M.linear_head ≡ L.address 0
  pub second : M.lazy_head ≡ L.address 1

-- the states before, newest first, and the one that a list of orders has reached
pub data Run (sizes : ℕ → List ℕ) (L : Layout) : List HeapState → HeapState → Type 0 where
  fresh : {M : Memory} → Fresh L M → Run sizes L [] (record { memory = M; variables = []; values = nil })
  next : {past : List HeapState} {now : HeapState} {M' : Memory} {variables' : List Cell} (o : HeapOrder) → Run sizes L past now → Legal o now.values
      → Performs sizes L now.memory o now.variables M' variables'
      → Run sizes L (now ∷ past) (record { memory = M'; variables = variables'; values = plain o now.values })

-- a claim of every state of a list, and of some
abbrev pub Every : (HeapState → Type 0) → List HeapState → Type 0
Every P [] = Unit {0}
Every P (s ∷ ss) = P s × Every P ss

abbrev pub Some : (HeapState → Type 0) → List HeapState → Type 0
Some P [] = ⊥
Some P (s ∷ ss) = P s ⊎ Some P ss
