-- What the records of code.rs's operations do on the scope's machine.
pub mod Claims  -- what is promised: each operation does what it names
