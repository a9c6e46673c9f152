-- What the port writes is read back the same.
pub mod Claims  -- what is promised
