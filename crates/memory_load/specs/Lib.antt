-- What the code of a load counts.
pub mod Linked  -- how many variables are linked
