pub mod Answers  -- an answer that is the one expected
pub mod Table  -- a table's rule, from one computed test over its entries
pub mod Conditions  -- conditions joined by `&&`, one that is true and false, two that agree, and choices: what both parts have, and of which one part is a refusal
pub mod Matched  -- a number that is none of those that a `match` names
pub mod Numbers  -- a number's bytes read one by one, in two halves, and from a part of a list
pub mod Starting  -- what stands at the start of a part of a list
pub mod Uses  -- each field by the largest value that its code's use of it allows
pub mod Storing  -- stores one after the other are one
pub mod Copying  -- bytes copied one after the other
pub mod Checking  -- the turns and the ends of a check of a list
pub mod CodesRead  -- an instruction record that is read
pub mod BindingsRead  -- a binding that is read
pub mod ContextsRead  -- a context that is checked
pub mod Flaws  -- the claim that what is told of a context is the earliest that is bad
pub mod OrdersRead  -- an order that is read or written
pub mod Each  -- what holds of each element of a list
pub mod Digits  -- numbers and their bytes, both ways
pub mod Joined  -- lists of records of one kind
pub mod Kept  -- fields made into an item and back
pub mod CodesBack  -- an instruction written and read back
pub mod CodesFormed  -- what is read from accepted instruction records is well formed
pub mod BindingsBack  -- a binding written and read back
pub mod OrdersBack  -- an order written and read back
pub mod ReadBack  -- the claim that records are read back as they were written
pub mod Hardware  -- the table of hardware numbers is the rule
