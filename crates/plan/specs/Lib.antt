-- What the contracts of `plan` cite, in reading order, after `plan_line`'s.
pub mod Plan  -- the records of a text, and the answer
pub mod Messages  -- what is wrong with a line, in words
pub mod Reading  -- the claim that plans are read back
pub mod Worked  -- worked lines
pub mod Steps  -- records put line by line
