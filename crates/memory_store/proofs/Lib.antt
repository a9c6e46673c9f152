-- Lemmas of the stores' proofs.
pub mod Answering  -- from a checked context to what a store answers
