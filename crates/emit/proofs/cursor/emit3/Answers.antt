use Rattle.emit.proofs.Laws.{◌⨾◌}
use Rattle.emit.proofs.cursor.emit3.Goals as goal

pub returns : goal.returns
returns c = c.emit2-q.ensures ⨾ c.emit.ensures
