-- What the contracts of `report_state` cite: every byte of the lines of variables, and of what is printed.
pub mod Cells  -- the line of each variable
pub mod Prints  -- what a print order writes
