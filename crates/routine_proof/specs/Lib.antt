-- What the records around a routine's body do on the scope's machine.
pub mod Claims  -- what is promised: a routine sets up, and returns to its caller
