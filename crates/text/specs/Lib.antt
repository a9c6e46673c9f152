-- What the contracts of `text` cite.
pub mod Text  -- text as bytes, and numbers in decimal
pub mod Putting  -- bytes put into an output at an index
