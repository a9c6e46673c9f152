-- Registers, spills and blocks as the code's trees see them.
pub mod Held  -- the word at an operand, what stays the same, where stack and heap lie
