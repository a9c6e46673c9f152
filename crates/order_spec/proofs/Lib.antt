-- Lemmas on orders that other crates cite.
pub mod Accepting  -- what an accepted order says
