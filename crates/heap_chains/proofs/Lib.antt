-- Lemmas of the proofs.
pub mod Walks  -- lemmas: what the walks over first words come to
pub mod FirstWords  -- the first word of the block at an address, and the counts
