-- Lemmas of the proofs.
pub mod Erased  -- how many records and labels erase_block has
