pub mod NameTable  -- what the table of names holds
pub mod Accepted  -- what an accepted list of records holds
pub mod Parts  -- the lines of a listing, put one after the other
pub mod Whole  -- a text measured, then stored where it fits
