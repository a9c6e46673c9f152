-- The seven orders, in the order in which to read them.
pub mod Writes  -- what each order writes, asks for and leaves
pub mod Answered  -- what it is answered with, on every input
pub mod Plain  -- the plain machine
