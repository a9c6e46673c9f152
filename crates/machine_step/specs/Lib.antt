-- What the contracts of `machine_step` cite, from the scope, 'Machine'.
pub mod View  -- registers, stack and heap as functions from a number to a word
pub mod Memory  -- where an address lies, and what is read and written there
pub mod Step  -- one instruction, name by name
pub mod Forms  -- how the code goes about one
