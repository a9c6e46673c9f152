-- Lemmas of the proofs, some of which the crates above cite.
pub mod Asking  -- what an order that is accepted says of its operands
pub mod Making  -- one binding of those to make
pub mod Leaving  -- the context after an order
