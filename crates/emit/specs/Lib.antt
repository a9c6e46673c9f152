-- What emitters ensure, what operations answer, and the laws that join them.
pub mod Emitted  -- records written from a cursor, as a list and as a tree
pub mod Answers  -- an operation's answer and its output
