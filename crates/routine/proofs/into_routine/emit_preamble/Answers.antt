use Rattle.emit.proofs.Laws.{◌⨾◌}
use Rattle.routine.proofs.into_routine.emit_preamble.Goals as goal

pub returns : goal.returns
returns c = c.emit4-q.ensures ⨾ c.emit2.ensures
