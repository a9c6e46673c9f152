pub mod Putting  -- records put one after the other
pub mod KindNames  -- the kind that a word names
pub mod Texts  -- the lines of a text put one after the other, and the answers
pub mod WellFormed  -- the order of a line is well formed
pub mod Reading  -- the records of a plan, read back
