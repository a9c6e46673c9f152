-- Lemmas of the proofs.
pub mod Judging  -- the answer by the checks from 4 on, and the outputs
pub mod Answering  -- from the order's bytes to its answer
