-- Lemmas on records written in a row.
pub mod Laws  -- lemmas: parts in a row, labels drawn late, a choice of two parts
pub mod Wrote  -- lemmas: from a cursor's records to an operation's answer and output
