pub mod Each  -- something true of each register of a list
pub mod Stack  -- addresses of the stack's words, PUSH and POP
pub mod Saved  -- registers moved and pushed
pub mod Restored  -- registers moved back and popped
pub mod Called  -- STACK brought to a multiple of 16, and the call
pub mod Around  -- the call with registers saved around it
pub mod Printing  -- print_i64 of a position of the context
