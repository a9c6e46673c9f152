pub mod Tables  -- what the code performs by tables is the step
pub mod Trying  -- one instruction tried alone
pub mod Labels  -- labels sought in the bytes
pub mod Running  -- the turns and the ends of a run
pub mod Checks  -- an accepted list is whole and well formed
pub mod Claims  -- the claim beside the contracts
pub mod Examples  -- the definitions at worked examples
pub mod Places  -- the six words below the one that STACK enters at
