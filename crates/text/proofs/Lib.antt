pub mod Putting  -- bytes put one after the other
pub mod Digits  -- a number's digits, put one after the other
