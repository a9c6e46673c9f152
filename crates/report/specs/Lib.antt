-- What the contracts of `report` cite: every byte of the lines that operators of a channel read.
pub mod Parts  -- words, then a number
pub mod Answers  -- the line of an order's answer
pub mod Stops  -- the line of a run that did not end
pub mod Counts  -- how many blocks are where, and how many to fit
