-- What the contracts of `plan_line` cite, in reading order.
pub mod Words  -- the lines of a text, the words of a line
pub mod Numbers  -- the number of a word
pub mod Orders  -- the order of a line's words
pub mod Finding  -- what the search for a word answers
