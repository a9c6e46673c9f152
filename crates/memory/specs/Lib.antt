-- What the operations of memory.rs write, and what they answer.
pub mod Blocks  -- one block: erased, shared, acquired, a field stored or loaded
pub mod Objects  -- objects of many blocks, stored and loaded
pub mod Answered  -- what the operations answer
pub mod LoadAnswered  -- what a load answers
pub mod NextBlock  -- the two runs of records of next_block
