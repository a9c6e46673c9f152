-- An answer that is the one expected has its number and values.
use Prim.Native.Nat.{ℕ}
use mathlib.Core.Path.{◌≡◌, ap}
use mathlib.Core.List.{List}
use Rattle.records.specs.Answers.{AnswersBy}

pub answers_by : {A : Type 0} {cause_of : A → List ℕ} {r expected : A} → r ≡ expected → AnswersBy cause_of r expected
answers_by {cause_of = cause_of} e = record { answer = e; cause = ap cause_of e }
