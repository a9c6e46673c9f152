use Rattle.emit.proofs.Laws.{◌⨾◌}
use Rattle.emit.proofs.cursor.emit2.Goals as goal

pub returns : goal.returns
returns c = c.emit-q.ensures ⨾ c.emit.ensures
