-- Lemmas of the proofs.
pub mod Growing  -- a store of all variables has the most records
pub mod OrderSizes  -- how many records an order has at most, and how many variables it leaves
pub mod Operations  -- how many records an operation has at most
pub mod Answering  -- an order that is not refused before 9, and its room
pub mod Filling  -- orders that need the whole room
pub mod Digits  -- how many digits a number has
pub mod Lines  -- how long a record's line is, and a listing
pub mod LongestListing  -- a list of records whose listing needs the whole room
pub mod Routines  -- how many bytes a routine has at most
