-- What the proofs carry from one operation to the next. No claim mentions these definitions, so no reader has to believe them.
-- Lazily freed and held blocks stand in one list, live, newest first: each block's pointers name only later ones.
use mathlib.Core.Path.{◌≡◌}
use mathlib.Core.Logic.{◌≢◌}
use mathlib.Core.List.{List, [], ◌∷◌}
use Prim.Native.Nat.{ℕ, suc, ◌+◌, ◌≤◌, ◌<◌}
use lib.ListN.{length}
use Rattle.heap.specs.Counting.{occ, refs}
use Rattle.heap.specs.Blocks.{Layout, blocks, Cell, pointers, children, Memory, Chain}
use Rattle.heap.specs.Reachability.{ReachableFrom}
use Rattle.heap.specs.Values.{Values}
use Rattle.heap.specs.Apart.{ObjectApart, HoldAllApart}

abbrev pub NewestFirst : (ℕ → List ℕ) → List ℕ → Type 0
NewestFirst children [] = Unit {0}
NewestFirst children (x ∷ xs) = ((b : ℕ) → b ≢ 0 → occ b xs ≡ 0 → occ b (children x) ≡ 0) × NewestFirst children xs

-- the linear list is linear-head and then linear-rest; a live block that is not lazily freed is held
pub record Invariant (L : Layout) (children : ℕ → List ℕ) (header : ℕ → ℕ) (linear_head lazy_head frontier : ℕ) (linear_rest lazy live roots : List ℕ) : Type 0 where
  pub linear_chain : Chain header linear_head (linear_head ∷ linear_rest) 0
  pub lazy_chain : Chain header lazy_head lazy (L.address frontier)
  pub parts : (b : ℕ) → occ b (linear_head ∷ linear_rest) + occ b live ≡ occ b (blocks L frontier)
  pub lazy_live : (b : ℕ) → occ b lazy ≤ occ b live
  pub held_count : (b : ℕ) → b ≢ 0 → occ b lazy < occ b live → occ b roots + refs children b live ≡ suc (header b)
  pub others_unnamed : (b : ℕ) → b ≢ 0 → occ b live ≤ occ b lazy → occ b roots + refs children b live ≡ 0
  pub newest_first : NewestFirst children live
  pub untouched : (i : ℕ) → frontier ≤ i → header (L.address i) ≡ 0
  pub size : suc (length linear_rest) + length live ≡ frontier

-- what the invariant says of a held block
pub record Held (children : ℕ → List ℕ) (header : ℕ → ℕ) (linear lazy live roots : List ℕ) (b : ℕ) : Type 0 where
  pub is_live : occ b live ≡ 1
  pub not_lazy : occ b lazy ≡ 0
  pub not_linear : occ b linear ≡ 0
  pub count : occ b roots + refs children b live ≡ suc (header b)

-- the frontier's move in an operation; spare and spare' blocks are free besides HEAP's, before and after
pub record FrontierMoved (frontier spare frontier' spare' : ℕ) : Type 0 where
  pub not_back : frontier ≤ frontier'
  pub only_when_full : frontier < frontier' → spare' ≡ 0
  pub stays_full : spare ≡ 0 → spare' ≡ 0

-- the invariant after a block is acquired; most bounds each block's pointers
pub record Acquired (L : Layout) (children : ℕ → List ℕ) (header : ℕ → ℕ) (linear_head lazy_head : ℕ) (roots : List ℕ) (before spare : ℕ) (most : ℕ → ℕ) : Type 0 where
  pub frontier : ℕ
  pub linear_rest : List ℕ
  pub lazy : List ℕ
  pub live : List ℕ
  pub invariant : Invariant L children header linear_head lazy_head frontier linear_rest lazy live roots
  pub pointers_most : (b : ℕ) → occ b roots + refs children b live ≤ most b
  pub moved : FrontierMoved before spare frontier (length linear_rest + length lazy)

-- The invariant of a memory, with its lists. A load releases an object's linked blocks without a test of their counts;
-- that each has one pointer at most is not in the counts, so linked tells which blocks these are, from the moment they are acquired.
pub record Consistent (L : Layout) (M : Memory) (linked : ℕ → ℕ) (frontier : ℕ) (roots : List ℕ) : Type 0 where
  pub linear_rest : List ℕ
  pub lazy : List ℕ
  pub live : List ℕ
  pub invariant : Invariant L (children M.fields) M.header M.linear_head M.lazy_head frontier linear_rest lazy live roots
  pub one_pointer : (b : ℕ) → b ≢ 0 → linked b ≢ 0 → occ b roots + refs (children M.fields) b live ≤ 1
  pub linked_live : (b : ℕ) → linked b ≤ occ b live

-- how many blocks are free besides HEAP's
abbrev pub spare : {L : Layout} {M : Memory} {linked : ℕ → ℕ} {frontier : ℕ} {roots : List ℕ} → Consistent L M linked frontier roots → ℕ
spare g = length g.linear_rest + length g.lazy

-- what the roots lead to before is led to after from other roots, and is the same
pub record Preserved (M : Memory) (linked : ℕ → ℕ) (roots : List ℕ) (M' : Memory) (linked' : ℕ → ℕ) (roots' : List ℕ) : Type 0 where
  pub reachable : (b : ℕ) → ReachableFrom M.fields roots b → ReachableFrom M'.fields roots' b
  pub fields : (b : ℕ) → ReachableFrom M.fields roots b → M'.fields b ≡ M.fields b
  pub marks : (b : ℕ) → ReachableFrom M.fields roots b → linked' b ≡ linked b

-- what an operation leaves
pub record Outcome (L : Layout) (M : Memory) (linked : ℕ → ℕ) (roots : List ℕ) (M' : Memory) (frontier' : ℕ) (roots' : List ℕ) : Type 0 where
  pub linked' : ℕ → ℕ
  pub consistent : Consistent L M' linked' frontier' roots'
  pub preserved : Preserved M linked roots M' linked' roots'

-- what the store of an object leaves; mark is 1 if a link is to name its first block, else 0
pub record Stored (L : Layout) (M : Memory) (linked : ℕ → ℕ) (frontier spare₀ : ℕ) (roots : List ℕ) (M' : Memory) (p mark : ℕ) (roots' : List ℕ) (chunks : List (List Cell)) : Type 0 where
  pub frontier' : ℕ
  pub outcome : Outcome L M linked roots M' frontier' (p ∷ roots')
  pub moved : FrontierMoved frontier spare₀ frontier' (spare outcome.consistent)
  pub blocks : ObjectApart M'.fields outcome.linked' p chunks
  pub marked : outcome.linked' p ≡ mark

-- the variables hold the plain machine's values in a consistent heap
pub record Represents (sizes : ℕ → List ℕ) (L : Layout) (M : Memory) (frontier : ℕ) (variables : List Cell) (values : Values) : Type 0 where
  pub linked : ℕ → ℕ
  pub consistent : Consistent L M linked frontier (pointers variables)
  pub holds : HoldAllApart sizes M.fields linked values variables

-- the same after an order; the frontier was at before, and has moved only if no block but HEAP's is free
pub record Advanced (sizes : ℕ → List ℕ) (L : Layout) (before : ℕ) (M : Memory) (variables : List Cell) (values : Values) : Type 0 where
  pub frontier : ℕ
  pub represents : Represents sizes L M frontier variables values
  pub not_back : before ≤ frontier
  pub only_when_full : before < frontier → spare represents.consistent ≡ 0
