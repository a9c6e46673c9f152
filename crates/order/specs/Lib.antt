-- What the order function ensures, and what its parts do.
pub mod Answers  -- its answer and its two outputs, on every input
pub mod Begun  -- an order that is read, or refused with 15 to 17 or 2
pub mod Decided  -- the answer by an order that is read
