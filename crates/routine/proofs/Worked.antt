-- The scope's worked numbers on routines: 'Routine of no body: 25 records with 0 arguments, 30 with 5; 6 refused'.
use Rattle.std.specs.Prelude.{Err, Ok}
use mathlib.Core.Path.{◌≡◌, refl}
use mathlib.Core.List.{[], ◌∷◌}
use Rattle.records.specs.declared.code.Code.TheVariants.{MOV}
use Rattle.records.specs.Bytes.{le}
use Rattle.records.specs.Checked.{checked, first_bad}
use Rattle.records.specs.Instructions.{fields_bytes}
use Rattle.emit.specs.declared.answer.Refusal.TheVariants.{Arguments}
use Rattle.emit.specs.Answers.{granted, written_with}
use Rattle.layout.specs.Config.{base}
use Rattle.routine.specs.Routine.{move_arguments, routine_bytes, routine_answer}

none : routine_answer base 65536 0 [] ≡ Ok (written_with 25 0)
unfolding routine_answer checked first_bad granted routine_bytes fields_bytes le
none = refl

five : routine_answer base 65536 5 [] ≡ Ok (written_with 30 0)
unfolding routine_answer checked first_bad granted routine_bytes fields_bytes le
five = refl

six : routine_answer base 65536 6 [] ≡ Err Arguments
unfolding routine_answer checked first_bad
six = refl

five_moves : move_arguments 5 ≡ MOV 13 9 ∷ MOV 11 8 ∷ MOV 9 1 ∷ MOV 7 5 ∷ MOV 5 6 ∷ []
five_moves = refl
