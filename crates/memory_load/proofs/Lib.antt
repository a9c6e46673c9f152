-- Lemmas of the loads' proofs.
pub mod Answering  -- from checked contexts to what a load answers
pub mod Labels  -- how many labels a load draws
