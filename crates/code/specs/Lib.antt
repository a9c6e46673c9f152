-- What the operations of code.rs write.
pub mod Code  -- moves, arithmetic, compares and loads as trees, jumps as lists of records
