pub mod Puts  -- one operand changed, and what that leaves
pub mod Records  -- the trees of one record, by what their operands are
pub mod Computed  -- mov, add, sub and mul
pub mod Divided  -- div and rem
pub mod Operated  -- the five operations
pub mod Jumped  -- jumps and compares
pub mod Ran  -- the bytes of the records run alone
