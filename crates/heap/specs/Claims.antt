-- What the crate promises: after every list of orders from the fresh heap, the heap is sound in the scope's sense, each variable holds its value,
-- and the frontier is one past the most blocks that the variables led to at once.
-- The number of fields in a block, the blocks' addresses and the chunk sizes of an object are any.
use Rattle.std.specs.Prelude.{◌≡◌, ◌≢◌, List, [], ◌∷◌, ℕ, suc, ◌+◌, ◌*◌, ◌≤◌, ◌<◌, length}
use Rattle.heap.specs.Counting.{occ, refs}
use Rattle.heap.specs.Blocks.{Layout, blocks, pointers, children, Memory, Chain}
use Rattle.heap.specs.Reachability.{Reachable, ReachableCount}
use Rattle.heap.specs.Values.{integer, nil, cons, HoldAll}
use Rattle.heap.specs.Apart.{LinksApart}
use Rattle.heap.specs.Orders.{HeapState, Run, Every, Some}

-- a sound heap whose first block never used is number frontier; the roots are the variables' pointers
pub record Sound (L : Layout) (M : Memory) (frontier : ℕ) (roots : List ℕ) : Type 0 where
  pub linear : List ℕ
  pub lazy : List ℕ
  pub held : List ℕ
  pub linear_chain : Chain M.header M.linear_head linear 0
  pub lazy_chain : Chain M.header M.lazy_head lazy (L.address frontier)
  -- each block below the frontier is in exactly one of the three, and no other block is in any
  pub parts : (b : ℕ) → occ b linear + occ b lazy + occ b held ≡ occ b (blocks L frontier)
  -- a held block's count is its pointers less one
  pub counts : (b : ℕ) → occ b held ≢ 0 → suc (M.header b) ≡ occ b roots + refs (children M.fields) b lazy + refs (children M.fields) b held
  -- held is what pointers lead to, from the variables and the lazily freed blocks
  pub held_reachable : (b : ℕ) → occ b held ≢ 0 → Reachable (children M.fields) (λ x. occ x roots + refs (children M.fields) x lazy) b
  pub reachable_held : (b : ℕ) → Reachable (children M.fields) (λ x. occ x roots + refs (children M.fields) x lazy) b → occ b held ≢ 0
  -- blocks from the frontier up start with 0
  pub untouched : (i : ℕ) → frontier ≤ i → M.header (L.address i) ≡ 0

abbrev pub SoundState : Layout → ℕ → HeapState → Type 0
SoundState L frontier s = Sound L s.memory frontier (pointers s.variables)

-- block b is held or on HEAP's list in a state; and: it is neither
abbrev pub Used : Layout → ℕ → HeapState → Type 0
Used L b s = (n : ℕ) × (sound : SoundState L n s) × (occ b sound.linear + occ b sound.held ≢ 0)

abbrev pub Unused : Layout → ℕ → HeapState → Type 0
Unused L b s = (n : ℕ) (sound : SoundState L n s) → occ b sound.linear + occ b sound.held ≡ 0

-- the frontier is the first block never held or on HEAP's list
pub record FirstNeverUsed (L : Layout) (states : List HeapState) (frontier : ℕ) : Type 0 where
  pub below : (i : ℕ) → i < frontier → Some (Used L (L.address i)) states
  pub above : (i : ℕ) → frontier ≤ i → Every (Unused L (L.address i)) states

-- Beyond what the scope asks: extras, on which nothing else of a claim rests. The blocks that links name are told apart; the variables lead to one number of blocks; no count
-- is larger than the variables and all fields could name.
pub record HeapBeyond (sizes : ℕ → List ℕ) (L : Layout) (now : HeapState) (frontier : ℕ) (sound : SoundState L frontier now) : Type 0 where
  pub links : LinksApart sizes now.memory now.variables now.values sound.lazy sound.held
  pub reachable : ℕ
  pub reachable_count : ReachableCount now.memory.fields (pointers now.variables) reachable
  pub reachable_unique : (count : ℕ) → ReachableCount now.memory.fields (pointers now.variables) count → count ≡ reachable
  pub count_bounded : (most b : ℕ) → ((x : ℕ) → length (now.memory.fields x) ≤ most) → occ b sound.held ≢ 0 → now.memory.header b < length now.variables + most * frontier

-- what holds after a list of orders: what the scope asks, and what is proved beyond it
pub record HeapAfter (sizes : ℕ → List ℕ) (L : Layout) (past : List HeapState) (now : HeapState) : Type 0 where
  pub frontier : ℕ
  pub sound : SoundState L frontier now
  pub first_never_used : FirstNeverUsed L (now ∷ past) frontier
  -- each variable holds its value
  pub holds : HoldAll sizes now.memory.fields now.values now.variables
  pub beyond : HeapBeyond sizes L now frontier sound

unfoldable pub AbstractHeapStaysSound : Type 0
AbstractHeapStaysSound = (sizes : ℕ → List ℕ) (L : Layout) (past : List HeapState) (now : HeapState) → [] ≡ sizes 0 → Run sizes L past now → HeapAfter sizes L past now

-- the variables lead to that many blocks, and to at most that many
abbrev pub Reaches : ℕ → HeapState → Type 0
Reaches count s = ReachableCount s.memory.fields (pointers s.variables) count

abbrev pub ReachesAtMost : ℕ → HeapState → Type 0
ReachesAtMost most s = (count : ℕ) → Reaches count s → count ≤ most

-- the most blocks that the variables lead to in any of the states
pub record Peak (peak : ℕ) (states : List HeapState) : Type 0 where
  pub within : Every (ReachesAtMost peak) states
  pub met : Some (Reaches peak) states

-- the frontier is one past that peak
unfoldable pub AbstractFrontierIsPeak : Type 0
AbstractFrontierIsPeak = (sizes : ℕ → List ℕ) (L : Layout) (past : List HeapState) (now : HeapState) (frontier : ℕ) → [] ≡ sizes 0 → Run sizes L past now
    → SoundState L frontier now → (peak : ℕ) × Peak peak (now ∷ past) × (frontier ≡ suc peak)

-- Runs are there to speak of: in any layout, some run of three orders ends with an integer that was put, stored and loaded.
unfoldable pub RunsExist : Type 0
RunsExist = (L : Layout) → (sizes : ℕ → List ℕ) × ([] ≡ sizes 0) × (past : List HeapState) × (length past ≡ 3) × (now : HeapState) × (now.values ≡ cons (integer 7) nil) × Run sizes L past now
