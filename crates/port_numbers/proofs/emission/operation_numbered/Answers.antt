use Rattle.operations.specs.declared.operation.Operation.TheVariants.{Label}
use Rattle.port_numbers.specs.Emission.{operations, operation_numbered}
use Rattle.port_numbers.proofs.Numbered.{none_of}
use Rattle.port_numbers.proofs.emission.operation_numbered.Goals as goal

pub returns-in_default : goal.returns-in_default
unfolding operation_numbered
returns-in_default c = let a = c.args in none_of (operations a.first a.second a.third a.label a.immediate) (Label 0) a.operation c.in_default.in_default-own.rest
