-- What structured code does, and that its records do the same.
pub mod Evaluation  -- what a tree does, with no label in it
pub mod Claims  -- what is promised of its records
