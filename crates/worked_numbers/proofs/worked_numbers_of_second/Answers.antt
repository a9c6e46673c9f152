use mathlib.Core.Path.{refl}
use Rattle.records.specs.Bytes.{le}
use Rattle.records.specs.Contexts.{binding_bytes, first_flaw, checked_context}
use Rattle.emit.specs.Answers.{granted}
use Rattle.layout.specs.Config.{second, frame_of, edition_of, shape_of, stack_offset}
use Rattle.layout.specs.Positions.{location, operand_ok}
use Rattle.layout.specs.Queries.{field_offset}
use Rattle.memory.specs.Answered.{erase_answer, store_answer}
use Rattle.memory.specs.LoadAnswered.{load_answer}
use Rattle.worked_numbers.specs.Worked.{WorkedNumbersOfSecond}
use Rattle.worked_numbers.proofs.Erased.{register, spilled}
use Rattle.worked_numbers.proofs.worked_numbers_of_second.Goals as goal

holds : WorkedNumbersOfSecond
unfolding le checked_context first_flaw binding_bytes granted stack_offset location operand_ok erase_answer store_answer load_answer frame_of edition_of shape_of field_offset
holds = record {
  first_256 = refl;
  first_512 = refl;
  second_256 = refl;
  second_512 = refl;
  second_511 = refl;
  third_511 = refl;
  no_third = refl;
  second_frame = refl;
  block_128 = refl;
  link_in_6 = refl;
  fst_6 = refl;
  snd_6 = refl;
  fst_7 = refl;
  store_1 = record { answered = refl; written = refl };
  store_7 = record { answered = refl; written = refl };
  store_8 = record { answered = refl; written = refl };
  store_13 = record { answered = refl; written = refl };
  store_14 = record { answered = refl; written = refl };
  load_1 = record { answered = refl; written = refl };
  load_7 = record { answered = refl; written = refl };
  load_8 = record { answered = refl; written = refl };
  load_13 = record { answered = refl; written = refl };
  load_14 = record { answered = refl; written = refl };
  none_after_0 = refl;
  erases_register = register second;
  erase_spill = spilled second;
  larger_store_14 = record { answered = refl; written = refl };
  larger_load_14 = record { answered = refl; written = refl };
}

pub returns : goal.returns
returns c = holds
