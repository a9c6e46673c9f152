-- Lemmas on registers, spills and blocks as the code's trees see them.
pub mod Operands  -- an operand as instructions name it, and one word changed
pub mod Runs  -- that a tree runs and leaves something true, and how runs are put together
pub mod HeldLemmas  -- one word changed, what is kept, the order of locations
pub mod PlaceLemmas  -- the place that a register and an offset name
pub mod RecordLemmas  -- one law for each form of record
