pub mod Searching  -- the search for a byte
pub mod Finding  -- words as the searches find them
pub mod Same  -- two words compared
pub mod Names  -- words told by their bytes
pub mod Digits  -- the value of digits against a limit
pub mod Loads  -- the kinds of a load
