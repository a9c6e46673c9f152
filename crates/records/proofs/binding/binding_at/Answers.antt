use Rattle.records.proofs.BindingsRead.{binding_part}
use Rattle.records.proofs.binding.binding_at.Goals as goal

pub returns : goal.returns
returns c = let a = c.args in binding_part a.s.now a.at c.kind_of-kind.ensures c.number4-id.ensures
