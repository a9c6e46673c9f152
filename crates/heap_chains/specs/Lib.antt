-- The heap's two free lists followed from first word to first word.
pub mod Blocks  -- the heap's blocks counted, and how many to fit
