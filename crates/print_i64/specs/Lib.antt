-- What print_i64 writes, and what it answers.
pub mod Registers  -- the registers to save, as a list and as a set
pub mod Print  -- the records and the answer
pub mod Saved  -- the same, register by register of the set
