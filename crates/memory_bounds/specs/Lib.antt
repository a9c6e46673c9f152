-- How many records a store and a load have at most.
pub mod Bounds  -- by the number of their variables, and by where these stand
