use mathlib.Core.Path.{refl}
use native.Mathlib.Omega.{arith}
use Rattle.records.specs.Bytes.{le, number}
use Rattle.records.specs.Contexts.{binding_bytes, first_flaw, checked_context}
use Rattle.records.specs.Orders.{order_bytes, order_in, order_of, order_readers, order_ok, order_operands_ok, used_by_order, order_starts}
use Rattle.emit.specs.Answers.{granted}
use Rattle.layout.specs.Config.{larger, frame_of, stack_offset}
use Rattle.layout.specs.Positions.{location, operand_ok, position_answer}
use Rattle.memory.specs.Answered.{erase_answer, store_answer}
use Rattle.memory.specs.LoadAnswered.{load_answer}
use Rattle.order_spec.specs.Answered.{answer_to}
use Rattle.order_spec.specs.Writes.{tree_of, context_after, present, kinds_ok, asked}
use Rattle.worked_numbers.specs.Worked.{WorkedNumbersOfLarger}
use Rattle.worked_numbers.proofs.Erased.{register, spilled}
use Rattle.worked_numbers.proofs.worked_numbers_of_larger.Goals as goal

holds : WorkedNumbersOfLarger
unfolding tree_of context_after frame_of le checked_context first_flaw binding_bytes granted stack_offset location position_answer operand_ok erase_answer store_answer load_answer answer_to number order_bytes order_in order_of order_readers order_ok order_operands_ok used_by_order order_starts present kinds_ok asked
holds = record {
  frame_256 = refl;
  frame_512 = refl;
  frame_511 = refl;
  position_11 = refl;
  position_12 = refl;
  offset_12 = refl;
  position_522 = refl;
  offset_522 = refl;
  position_523 = refl;
  none_after_0 = refl;
  record_after_0 = refl;
  none_after_260 = refl;
  record_after_260 = refl;
  none_after_261 = refl;
  record_after_261 = refl;
  none_after_262 = refl;
  order_after_260 = refl;
  order_after_261 = refl;
  one_after_260 = record { answered = refl; written = refl };
  one_after_261 = refl;
  loaded_after_260 = record { answered = refl; written = refl };
  loaded_after_261 = refl;
  erases_register = register larger;
  erase_spill = spilled larger;
  erase_511 = spilled larger 511 (omega arith) (omega arith);
  erase_512 = refl;
  erase_256 = refl;
  put_in_smaller = refl;
  put_after_200 = refl;
  record_after_200 = refl;
  stores_one = record { answered = refl; written = refl };
  store_four = record { answered = refl; written = refl };
  load_one = record { answered = refl; written = refl };
}

pub returns : goal.returns
returns c = holds
