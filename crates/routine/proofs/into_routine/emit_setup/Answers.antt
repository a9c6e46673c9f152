use Rattle.emit.proofs.Laws.{◌⨾◌}
use Rattle.routine.proofs.into_routine.emit_setup.Goals as goal

pub returns : goal.returns
returns c = rw (← c.fst_offset-block.ensures) (c.emit4-q.ensures ⨾ c.emit3-s.ensures ⨾ c.emit3.ensures)
