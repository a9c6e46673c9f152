-- The records of operations, prints and orders are well formed, so that their bytes run as they do.
pub mod Formed  -- which trees have well-formed records
pub mod Codes  -- an instruction is well formed by the bounds of its operands
pub mod Records  -- the records of a tree, with its labels, are well formed
pub mod Bytes  -- a run over their bytes is the run over the instructions
pub mod Choices  -- a choice between two trees
pub mod Operations  -- the trees of code.rs
pub mod Blocks  -- those of memory.rs for one block
pub mod Objects  -- those of memory.rs for whole objects
pub mod Printing  -- that of print_i64
pub mod Orders  -- that of every order, and its size
pub mod Granting  -- what an accepted store, load, share or erase says
