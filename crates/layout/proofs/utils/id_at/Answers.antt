use mathlib.Core.Path.{ap}
use Rattle.records.specs.declared.binding.Binding.{Binding}
use Rattle.layout.proofs.utils.id_at.Goals as goal

pub returns : goal.returns
returns c = ap (λ (b : Binding). b.id) c.binding_at-b.ensures
