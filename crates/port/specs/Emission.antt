-- What the exported operations answer: the operations' own answers and records, told as numbers.
use Rattle.std.specs.Prelude.{ℕ, cond, ◌≡◌, List, [], ◌∷◌}
use Rattle.std.proofs.lemmas.List.Edits.{sets}
use Rattle.records.specs.declared.code.Code.{Code}
use Rattle.emit.specs.Answers.{accepted, output, Answer}
use Rattle.port_numbers.specs.Emission.{answer_numbers}

-- number and value, beside an output before and after, are those of an operation that answers so and writes the records cs
pub record Tells (o o' : List ℕ) (number value : ℕ) (expected : Answer) (cs : List Code) : Type 0 where
  pub numbers : number ∷ value ∷ [] ≡ answer_numbers expected
  pub bytes : o' ≡ output expected o cs

-- the same for a routine's bytes
pub record TellsRoutine (o o' : List ℕ) (number value : ℕ) (expected : Answer) (routine : List ℕ) : Type 0 where
  pub numbers : number ∷ value ∷ [] ≡ answer_numbers expected
  pub bytes : o' ≡ cond (accepted expected) (sets o 0 routine) o
