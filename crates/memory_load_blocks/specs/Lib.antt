-- What loading all blocks of an object asks.
pub mod Blocks  -- the numbers of its variables and blocks
