-- What operations, checks, queries and orders are asked and answer, as numbers.
pub mod Numbers  -- an answer as a number and a value
pub mod Emission  -- the operations by number, and what they answer
pub mod Query  -- what the queries answer
pub mod Order  -- what an order answers
pub mod List  -- what a listing answers
pub mod Run  -- what a run answers
