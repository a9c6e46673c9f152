-- What the proofs of the functions by number lean on.
pub mod Numbered  -- the operation of a number
pub mod Known  -- an edition, or a frame, that is known or not
