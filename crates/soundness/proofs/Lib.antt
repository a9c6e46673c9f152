-- Lemmas of the proofs.
pub mod Ending  -- a tree that does something ends as a run of its records
pub mod Appending  -- put and compute
pub mod Copying  -- copy
pub mod Dropping  -- drop and store
pub mod Loading  -- load
pub mod Rooms  -- the frontier within the heap, by runs that met no fault
pub mod Carried  -- what the induction carries
pub mod Changing  -- each order that changes something
pub mod Stepping  -- one accepted order
pub mod Induction  -- the claims, by induction over the list
pub mod Operating  -- store, load, share and erase, by the runs of their bytes
pub mod Fitting  -- a list on a heap of two blocks more than its peak on another
pub mod Counting  -- the walks over first words come to the lists of a sound heap
pub mod AllStored  -- so many puts and a store of all of them, in any shape
pub mod Printing  -- what is put for an order is what its calls write
pub mod Example  -- the list that meets the premises
pub mod Operated  -- the four operations on a channel with an object
pub mod Fewest  -- a list on fewer blocks than it acquires, and one block too few
