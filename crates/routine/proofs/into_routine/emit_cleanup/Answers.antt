use Rattle.emit.proofs.Laws.{◌⨾◌}
use Rattle.routine.proofs.into_routine.emit_cleanup.Goals as goal

pub returns : goal.returns
returns c = c.emit4-q.ensures ⨾ c.emit4-s.ensures ⨾ c.emit.ensures
