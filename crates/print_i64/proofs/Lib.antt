-- Lemmas of the proofs on print_i64.
pub mod Sizes  -- lemmas: how many records, and that no labels are drawn
pub mod Worked  -- worked numbers
pub mod Sets  -- a set of registers, its members and its ones
pub mod Saving  -- registers saved and restored one by one
pub mod Printing  -- the records with the registers of the set are print_i64's
