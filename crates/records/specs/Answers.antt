-- What a function ensures that answers by cases. From the scope, 'Forms': a definition gives the paper's number and values for each case.
use Rattle.std.specs.Prelude.{ℕ, ◌≡◌, List}

-- the answer r is the one expected, and so are the number and values that cause_of gives it
pub record AnswersBy {A : Type 0} (cause_of : A → List ℕ) (r expected : A) : Type 0 where
  pub answer : r ≡ expected
  pub cause : cause_of r ≡ cause_of expected
