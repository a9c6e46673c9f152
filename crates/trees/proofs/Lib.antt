-- Lemmas on trees.
pub mod Flat  -- lemmas: flattening from another counter, the number of records
