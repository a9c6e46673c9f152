use mathlib.Core.Path.{refl}
use Rattle.records.specs.Bytes.{le, number}
use Rattle.records.specs.Contexts.{binding_bytes, first_flaw, checked_context}
use Rattle.records.specs.Orders.{order_bytes, order_in, order_of, order_readers, order_ok, order_operands_ok, used_by_order, order_starts}
use Rattle.emit.specs.Answers.{granted}
use Rattle.layout.specs.Config.{base, stack_offset}
use Rattle.layout.specs.Positions.{location, position_answer}
use Rattle.memory.specs.Answered.{store_answer}
use Rattle.memory.specs.LoadAnswered.{load_answer}
use Rattle.order_spec.specs.Answered.{answer_to}
use Rattle.order_spec.specs.Writes.{present, kinds_ok, asked}
use Rattle.worked_numbers.specs.Worked.{WorkedNumbers}
use Rattle.worked_numbers.proofs.Erased.{register, spilled}
use Rattle.worked_numbers.proofs.worked_numbers.Goals as goal

holds : WorkedNumbers
unfolding le checked_context first_flaw binding_bytes granted stack_offset location position_answer store_answer load_answer answer_to number order_bytes order_in order_of order_readers order_ok order_operands_ok used_by_order order_starts present kinds_ok asked
holds = record {
  position_11 = refl;
  position_12 = refl;
  offset_12 = refl;
  position_266 = refl;
  offset_266 = refl;
  position_267 = refl;
  none_after_0 = refl;
  record_after_0 = refl;
  none_after_133 = refl;
  record_after_133 = refl;
  none_after_134 = refl;
  order_after_133 = refl;
  one_after_132 = record { answered = refl; written = refl };
  one_after_133 = refl;
  erases_register = register base;
  erase_spill = spilled base;
  stores_one = record { answered = refl; written = refl };
  store_four = record { answered = refl; written = refl };
  load_one = record { answered = refl; written = refl };
}

pub returns : goal.returns
returns c = holds
