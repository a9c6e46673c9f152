-- What a routine is, and what making one answers.
pub mod Routine  -- the records around the body, the answer and the output
pub mod Records  -- the claim that its bytes are its records'
