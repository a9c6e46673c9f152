-- What the proofs of the exported functions lean on.
pub mod Gives  -- a start and a run by the frame
pub mod Tells  -- an operation's answer as numbers
