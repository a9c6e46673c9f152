-- What print_i64's records do on the scope's machine.
pub mod Claims  -- what is promised: one call, and every variable is kept
