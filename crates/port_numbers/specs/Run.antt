-- A run's answer, told as numbers.
use Rattle.std.specs.Prelude.{ℕ, cond, List, [], ◌∷◌, eqb, get_or}
use Rattle.records.specs.Causes.{MALFORMED}
use Rattle.machine.specs.Run.{run_cause, RunAnswer}
use Rattle.port_numbers.specs.Numbers.{number_in, value_in}

-- a run's answer: the number, the steps done, and the place of a bad or faulting record, 0 where there is none; the one value of 2 is a place
abbrev pub run_numbers : RunAnswer → List ℕ
run_numbers r =
    cond (eqb (number_in (run_cause r)) MALFORMED) (number_in (run_cause r) ∷ 0 ∷ value_in (run_cause r) ∷ [])
    (number_in (run_cause r) ∷ value_in (run_cause r) ∷ get_or (run_cause r) 2 0 ∷ [])
