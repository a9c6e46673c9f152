pub mod Seeing  -- a write to a list is a change of its view
pub mod Forms  -- the forms of operands that name a register
pub mod Instructions  -- pushes, calls and what a print leaves
pub mod Flow  -- how each instruction leaves a record, and that the step goes by it
