use mathlib.Core.Path.{refl}
use Rattle.records.specs.Bytes.{le}
use Rattle.records.specs.Contexts.{binding_bytes}
use Rattle.records.specs.Orders.{order_bytes}
use Rattle.plan_line.specs.Words.{before, parts, words_in, same_bytes}
use Rattle.plan_line.specs.Numbers.{all_digits, digits_value, within, natural_of, integer_in}
use Rattle.plan_line.specs.Orders.{name_of, operator_of, is_kind, place_at, integer_at, operator_at, named_first, ended, put_line, second_line, operands_line, compute_line, times_line, copy_line, tag_line, tagged_line, store_line, load_of, load_line, newline_line, print_line, line_of}
use Rattle.plan.specs.Plan.{kind_of_word, bindings, plan_records, plan_from, plan_of, planned, planned_bytes}
use Rattle.plan.specs.Worked.{WorkedLines}
use Rattle.plan.proofs.worked_lines.Goals as goal

worked : WorkedLines
unfolding le binding_bytes order_bytes before parts words_in same_bytes all_digits digits_value within natural_of integer_in name_of operator_of is_kind place_at integer_at operator_at named_first ended put_line second_line operands_line compute_line times_line copy_line tag_line tagged_line store_line load_of load_line newline_line print_line line_of kind_of_word bindings plan_records plan_from plan_of planned planned_bytes
worked =
    record {
      put = refl;
      lowest = refl;
      below_lowest = refl;
      compute = refl;
      load = refl;
      room = refl;
      written = refl;
      third = refl;
      missing = refl;
      surplus = refl;
      newline = refl;
      nothing = refl;
    }

pub returns : goal.returns
returns c = worked
