-- Lemmas of the proofs.
pub mod Extent  -- how many records and labels an order has
pub mod Bounded  -- and that they are within its bounds
pub mod Copying  -- one variable of those to copy
pub mod Writing  -- the tree of an order
