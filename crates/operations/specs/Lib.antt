-- What the operations of code.rs answer.
pub mod Operations  -- each operation's records and answer
