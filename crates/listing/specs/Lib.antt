-- What the contracts of `listing` cite, from the scope, 'Worked numbers'.
pub mod Names  -- the 44 names
pub mod Listing  -- the listing, the answer, and what the lister prints
