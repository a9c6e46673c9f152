-- Lemmas of the proofs.
pub mod Opened  -- a block reached by its own register or by register 4
pub mod Blocks  -- all blocks of an object, one after the other
