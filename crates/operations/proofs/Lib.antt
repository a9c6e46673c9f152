-- Lemmas of the operations' proofs.
pub mod Extent  -- how many records an operation has at most
pub mod Ranges  -- checked operands are registers or spills of the frame
pub mod Answering  -- from what an emitter of a list leaves to the operation's answer and output
