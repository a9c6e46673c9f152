use mathlib.Core.Path.{ap, ◌∙◌}
use Rattle.port_numbers.specs.Numbers.{number_in, value_in}
use Rattle.port_numbers.specs.List.{listed_numbers}
use Rattle.port.proofs.axcut_list.Goals as goal

pub returns : goal.returns
returns c = let l = c.list_records-answer.ensures in let n = c.told.ensures ∙ ap listed_numbers l.answer.answer in record { number = ap number_in n; value = ap value_in n; written = l.written }
