-- How many records and labels an order has at most.
pub mod Bounds  -- by the order and the number of the context's variables
