-- Lemmas of the proofs on routines.
pub mod Worked  -- worked numbers
pub mod Parts  -- one argument more, the body's length
pub mod Assembling  -- head, body and cleanup are the routine
