use Rattle.emit.proofs.Laws.{◌⨾◌, counted}
use Rattle.memory.proofs.block.next_end.Goals as goal

pub returns : goal.returns
returns c = counted 4 (c.emit3-q.ensures ⨾ c.emit3-s.ensures) c.draw.ensures
