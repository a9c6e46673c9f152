pub mod Through  -- records one after the other, none of which jumps
pub mod Depth  -- the stack's depth stays
pub mod Framed  -- setup and cleanup
