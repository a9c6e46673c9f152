-- Lemmas on what code.rs's operations write.
pub mod Choices  -- lemmas: a choice between two trees, from the one chosen
pub mod Numbered  -- lemmas: a record whose code's number is computed from the operation's
pub mod Sizes  -- lemmas: how many records, and that no labels are drawn
pub mod Listed  -- lemmas: records as a list, from what an emitter leaves to the answer
