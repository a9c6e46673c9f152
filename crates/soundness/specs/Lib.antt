-- Demand 3, and how much heap to fit: what the promises say. `Example`, `Operated`, `Fewest`, `Puts`, `Larger` and `Second` are lists that they speak of.
pub mod Claims  -- demand 3, and all that it says
pub mod Operations  -- store, load, share_block_n and erase_block on a reached channel
pub mod Peak  -- the frontier against the most blocks reachable at once, and the heap to fit
pub mod Shapes  -- both by the numbers of an edition and a frame
pub mod Example  -- a list that meets the premises
pub mod Puts  -- a list of puts
pub mod Larger  -- a list on the larger frame, and how many puts each frame takes
pub mod Second  -- a store of forty variables, in blocks of both editions
pub mod Operated  -- the four operations on a channel with an object
pub mod Fewest  -- a list on fewer blocks than it acquires
pub mod Prints  -- what is printed, and what the calls write
pub mod Counts  -- the blocks counted on a sound channel's words
