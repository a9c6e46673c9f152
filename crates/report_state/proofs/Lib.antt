pub mod Rows  -- the lines of variables, put one after the other
pub mod Silent  -- an order that is no print order
