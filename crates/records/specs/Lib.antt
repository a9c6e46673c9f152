-- What the contracts of `records` cite, from the scope, 'Binding record', 'Instruction record', 'Order record'.
pub mod Bytes  -- little-endian numbers, and bytes stored in an output
pub mod Causes  -- the causes and their numbers
pub mod Answers  -- what a function ensures that answers by cases
pub mod Checked  -- the first bad or surplus record of a list, for records of any kind
pub mod Contexts  -- binding records and contexts
pub mod Flaws  -- the claim that what is told of a context is the earliest that is bad
pub mod Names  -- labels and names by their numbers
pub mod Codes  -- what each instruction's record holds, name by name
pub mod Instructions  -- instruction records: well-formed, read, written
pub mod Orders  -- order records
pub mod ReadBack  -- the claim that records are read back as they were written
pub mod Registers  -- the registers, as the processor encodes them
