use Rattle.emit.proofs.Laws.{◌⨾◌}
use Rattle.memory.proofs.block.next_begin.Goals as goal

pub returns : goal.returns
returns c = c.emit4-q.ensures ⨾ c.emit4-s.ensures ⨾ c.emit3.ensures
