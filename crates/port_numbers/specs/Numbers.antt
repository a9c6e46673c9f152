-- An answer as two numbers: the scope's number, 0 where the input is accepted, and the value that goes with it.
use Rattle.std.specs.Prelude.{ℕ, List, [], ◌∷◌, get_or, Err}
use Rattle.emit.specs.declared.answer.Refusal.TheVariants.{Operand}
use Rattle.emit.specs.Answers.{cause_of}

abbrev pub number_in : List ℕ → ℕ
number_in cause = get_or cause 0 0

abbrev pub value_in : List ℕ → ℕ
value_in cause = get_or cause 1 0

-- a cause's number and value, each 0 where there is none
abbrev pub numbers_in : List ℕ → List ℕ
numbers_in cause = number_in cause ∷ value_in cause ∷ []

-- a number that names no operation, check or query is refused as an operand is
abbrev pub unknown : List ℕ
unknown = numbers_in (cause_of (Err Operand))
