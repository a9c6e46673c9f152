-- Lemmas on what the operations of memory.rs write.
pub mod Flattened  -- the records of next_block as the emitter writes them
pub mod Sizes  -- how many records and labels
pub mod Unfolded  -- one step of a store
