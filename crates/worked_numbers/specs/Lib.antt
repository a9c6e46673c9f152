-- The scope's worked numbers on operations.
pub mod Worked  -- the table
