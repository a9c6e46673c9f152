-- What the contracts of `program_options` cite.
pub mod Options  -- words that choose an edition and a frame, and what is said of a wrong one
