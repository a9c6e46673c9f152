use Rattle.emit.proofs.Laws.{◌⨾◌}
use Rattle.routine.proofs.into_routine.emit_head.Goals as goal

pub returns : goal.returns
returns c = c.emit_preamble-q.ensures ⨾ c.emit_setup-s.ensures ⨾ c.move_arguments.ensures
