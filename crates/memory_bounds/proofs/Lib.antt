-- Lemmas on how many records stores and loads have.
pub mod StoreSizes  -- of a store at most, by the number of its variables, and beside the store of linked ones
pub mod LoadSizes  -- of a load at most
pub mod Linked  -- of a store of linked variables, by where they stand
pub mod Ample  -- from the bounds to whether there is room
