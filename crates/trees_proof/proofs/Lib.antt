pub mod Straight  -- a straight record goes on or faults, and is no label
pub mod Labels  -- labels counted, and the one place of a label
pub mod Steps  -- single records, and what runs one after the other
pub mod Trees  -- the records of a tree do what the tree does
pub mod Lengths  -- a tree that is done on a heap is done alike on a longer one
