-- Lemmas on the abstract heap.
pub mod Invariant  -- what the proofs carry from one operation to the next
pub mod CountingLemmas  -- counts of joined, repeated and shortened lists
pub mod BlockLemmas  -- distinct blocks, and frames for chains and counts
pub mod WordLemmas  -- address arithmetic, and changes of words
pub mod OperationLemmas  -- erase, release and acquire keep the invariant
pub mod ReachabilityLemmas  -- held is reachable, and reachable is held
pub mod ValueLemmas  -- values stay held where what they reach is the same
pub mod ConsistencyLemmas  -- changes of roots and counts, drop, and what is preserved
pub mod StoreLemmas  -- the store of an object of any number of blocks
pub mod LoadLemmas  -- copy, and both loads
pub mod SoundLemmas  -- consistent is sound; one frontier; counts bounded; the full heap
pub mod RoomLemmas  -- the number of reachable blocks, and the room that a store needs
pub mod OrderLemmas  -- each order takes the plain machine's step
pub mod GrowthLemmas  -- the frontier stays below a bound that leaves room for the blocks acquired
pub mod RunLemmas  -- the claims, by induction over a run
pub mod Example  -- a run of three orders
