-- What the exported functions answer.
pub mod Run  -- the state to start from, and what a run gives
pub mod Check  -- the checks by number
pub mod Emission  -- what the operations answer
pub mod Query  -- the queries by number
pub mod Order  -- what an order answers
pub mod Blocks  -- the blocks counted
