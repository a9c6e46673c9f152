-- Lemmas of the proofs.
pub mod Played  -- from an order's answer and its run to what playing it leaves
pub mod Finding  -- the item at a byte of a list
