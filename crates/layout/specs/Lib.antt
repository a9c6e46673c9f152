-- Where things stand: registers, spills, blocks and variables. From the scope, 'Binding record' and 'Instruction record'.
pub mod Config  -- the numbers that an edition fixes, registers, offsets
pub mod Positions  -- the operand of each position, and which operands a caller may give
pub mod Frame  -- where a frame's words stand, and the variables that they hold
pub mod Queries  -- the temporaries of a variable, and the offsets of spills and fields
