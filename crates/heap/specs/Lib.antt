-- The abstract heap, in the order in which to read it. `Claims` and those before it are all that the promises say.
pub mod Counting  -- how often an address stands in a list or in fields
pub mod Blocks  -- block addresses, fields, the memory with its two free lists
pub mod Reachability  -- the blocks that pointers lead to, and their number
pub mod Values  -- the plain machine's values, and what holds them
pub mod Apart  -- values held, with links told apart: what is proved beyond the scope
pub mod Operations  -- what erase, acquire, store, load and share do to the memory
pub mod Orders  -- the orders, the plain machine, and runs from the fresh heap
pub mod Claims  -- the sound heap, and the claims
pub mod Words  -- the memory that the heap's words show
