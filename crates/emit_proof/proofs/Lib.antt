-- Lemmas of the two claims.
pub mod Lists  -- lists of records, and the records of trees
pub mod Operations  -- those of code.rs
pub mod Trees  -- those of memory.rs, print_i64 and orders
pub mod Routines  -- a routine's
pub mod Written  -- the claim that what is written is read back
pub mod Setup  -- the fresh state follows the setup's bytes
