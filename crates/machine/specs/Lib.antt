-- What the contracts of `machine` cite, from the scope, 'Machine'.
pub mod State  -- the state, at entry and where the body of a routine starts
pub mod Trial  -- one instruction tried alone
pub mod Run  -- a list of records, run with a step limit
pub mod Claims  -- what holds beside the contracts
pub mod Tables  -- how the code goes about a step: by tables
pub mod Loop  -- how the code goes about a run
