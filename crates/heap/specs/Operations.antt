-- What memory.rs does to the abstract heap: erase, acquire, release, and the store and the load of an object of any number of blocks.
-- Each operation is a relation between the memory before and after, told by the tests that the code makes; nothing else changes.
use Rattle.std.specs.Prelude.{◌≡◌, ◌≢◌, List, [], ◌∷◌, ◌++◌, ℕ, suc, ◌+◌}
use Rattle.heap.specs.Counting.{same, occ}
use Rattle.heap.specs.Blocks.{Layout, Cell, cell, pointers, children, Memory}
use Rattle.heap.specs.Values.{concat, NoPointers}

-- every block but p keeps its header
abbrev pub Elsewhere : ℕ → (ℕ → ℕ) → (ℕ → ℕ) → Type 0
Elsewhere p header header' = (b : ℕ) → b ≢ p → header' b ≡ header b

-- erase_block: a null pointer, the last pointer to its block (which goes onto the lazy list), or one of several
pub data Erase (p : ℕ) (header : ℕ → ℕ) (lazy_head : ℕ) (header' : ℕ → ℕ) : ℕ → Type 0 where
  null : p ≡ 0 → header' ≡ header → Erase p header lazy_head header' lazy_head
  last_pointer : p ≢ 0 → header p ≡ 0 → header' p ≡ lazy_head → Elsewhere p header header' → Erase p header lazy_head header' p
  one_less : p ≢ 0 → suc (header' p) ≡ header p → Elsewhere p header header' → Erase p header lazy_head header' lazy_head

-- pointers erased one after the other
pub data EraseAll : List ℕ → (ℕ → ℕ) → ℕ → (ℕ → ℕ) → ℕ → Type 0 where
  none : {header : ℕ → ℕ} {lazy_head : ℕ} → EraseAll [] header lazy_head header lazy_head
  more : {p : ℕ} {ps : List ℕ} {header header₁ header' : ℕ → ℕ} {lazy_head lazy-head₁ lazy-head' : ℕ}
      → Erase p header lazy_head header₁ lazy-head₁ → EraseAll ps header₁ lazy-head₁ header' lazy-head' → EraseAll (p ∷ ps) header lazy_head header' lazy-head'

-- acquire_block: HEAP's block is taken, and the next HEAP comes from the linear list, from the frontier, or from the lazy list with its children erased
pub data Acquire (L : Layout) (children : ℕ → List ℕ) (header : ℕ → ℕ) (linear_head lazy_head : ℕ) (header' : ℕ → ℕ) : ℕ → ℕ → Type 0 where
  from_linear : header linear_head ≢ 0 → header' linear_head ≡ 0 → Elsewhere linear_head header header' → Acquire L children header linear_head lazy_head header' (header linear_head) lazy_head
  from_frontier : {lazy-head' : ℕ} → header linear_head ≡ 0 → header lazy_head ≡ 0 → header' ≡ header → ((n : ℕ) → lazy_head ≡ L.address n → lazy-head' ≡ L.address (suc n))
      → Acquire L children header linear_head lazy_head header' lazy_head lazy-head'
  from_lazy : {header₁ : ℕ → ℕ} {lazy-head' : ℕ} → header linear_head ≡ 0 → header lazy_head ≢ 0 → header₁ lazy_head ≡ 0 → Elsewhere lazy_head header header₁
      → EraseAll (children lazy_head) header₁ (header lazy_head) header' lazy-head' → Acquire L children header linear_head lazy_head header' lazy_head lazy-head'

-- HEAP's block written whole, and acquired
pub record StoreBlock (L : Layout) (M : Memory) (body : List Cell) (M' : Memory) : Type 0 where
  pub written : M'.fields M.linear_head ≡ body
  pub elsewhere : (b : ℕ) → b ≢ M.linear_head → M'.fields b ≡ M.fields b
  pub acquired : Acquire L (children M'.fields) M.header M.linear_head M.lazy_head M'.header M'.linear_head M'.lazy_head

-- Memory::store of some: the object's blocks stored, the last of them first; p is the pointer
abbrev pub StoreObject : Layout → Memory → List Cell → List (List Cell) → Memory → ℕ → Type 0
StoreObject L M c [] M' p = (M.linear_head ≡ p) × (unused : List Cell) × NoPointers unused × StoreBlock L M (unused ++ c) M'
StoreObject L M c (d ∷ chunks) M' p =
    (M₁ : Memory) × (M₁.linear_head ≡ p) × (unused : List Cell) × NoPointers unused × (link : Cell) × StoreObject L M d chunks M₁ link.fst × StoreBlock L M₁ (unused ++ (c ++ (link ∷ []))) M'

-- the heap with other headers; with a block put onto the linear list; with another head of the lazy list
abbrev pub with_headers : Memory → (ℕ → ℕ) → Memory
with_headers M header = record { header = header; fields = M.fields; linear_head = M.linear_head; lazy_head = M.lazy_head }

abbrev pub push_linear : Memory → ℕ → (ℕ → ℕ) → Memory
push_linear M p header = record { header = header; fields = M.fields; linear_head = p; lazy_head = M.lazy_head }

abbrev pub with_lazy : Memory → (ℕ → ℕ) → ℕ → Memory
with_lazy M header lazy_head = record { header = header; fields = M.fields; linear_head = M.linear_head; lazy_head = lazy_head }

-- a block's last field, where a link stands
abbrev pub last_field : List Cell → Cell
last_field [] = cell 0 0
last_field (c ∷ []) = c
last_field (c ∷ d ∷ cs) = last_field (d ∷ cs)

-- what Memory::load reads of an object: from each block the chunk, and the link behind it
abbrev pub ReadObject : (ℕ → List Cell) → ℕ → List Cell → List (List Cell) → Type 0
ReadObject fields p c [] = (unused : List Cell) × (fields p ≡ unused ++ c)
ReadObject fields p c (d ∷ chunks) = (unused : List Cell) × (link : Cell) × (fields p ≡ unused ++ (c ++ (link ∷ []))) × ReadObject fields link.fst d chunks

-- release_block, along the links: the object's blocks go onto the linear list, the first of them first
abbrev pub ReleaseObject : Memory → ℕ → List (List Cell) → Memory → Type 0
ReleaseObject M p [] M' = M ≡ M'
ReleaseObject M p (c ∷ []) M' = (header₁ : ℕ → ℕ) × (header₁ p ≡ M.linear_head) × Elsewhere p M.header header₁ × (push_linear M p header₁ ≡ M')
ReleaseObject M p (c ∷ d ∷ chunks) M' =
    (header₁ : ℕ → ℕ) × (header₁ p ≡ M.linear_head) × Elsewhere p M.header header₁ × ReleaseObject (push_linear M p header₁) (last_field (M.fields p)).fst (d ∷ chunks) M'

-- share_block_n on each pointer of the list: a block's count grows by its places in it
abbrev pub Share : List ℕ → (ℕ → ℕ) → (ℕ → ℕ) → Type 0
Share ps header header' = (b : ℕ) → b ≢ 0 → header' b ≡ header b + occ b ps

-- the load of an object that stays: its own count is one less, and each value's pointer is shared
abbrev pub ShareLoad : ℕ → List (List Cell) → (ℕ → ℕ) → (ℕ → ℕ) → Type 0
ShareLoad p chunks header header' = (b : ℕ) → b ≢ 0 → header' b + same b p ≡ header b + occ b (pointers (concat chunks))
