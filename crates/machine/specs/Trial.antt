-- One instruction tried alone, on a heap of any size and with operands that no record may hold. From the scope, 'Causes and numbers', rows 2 and 11.
use Rattle.machine_step.specs.declared.instruction.Went.{Went}
use Rattle.records.specs.declared.check.Malformed.{Malformed}
use Rattle.std.specs.Prelude.{ℕ, cond, List, [], ◌∷◌, Err, Ok, Option, Result}
use Rattle.records.specs.Causes.{ACCEPTED, MALFORMED, FAULT}
use Rattle.records.specs.declared.code.Code.{Code}
use Rattle.records.specs.Codes.{fields_of}
use Rattle.records.specs.Instructions.{fields_ok}
use Rattle.machine_step.specs.View.{View}
use Rattle.machine_step.specs.Memory.{heap_ok}
use Rattle.machine_step.specs.Step.{Call, Config, config, Outcome, next, jump, end, fault, step, outcome_of}

-- the scope's 2, with place 0 for a heap that may not be lent and place 1 for an instruction that no record may hold
pub data Trial : Type 0 where
  took : Outcome → Trial
  refused : ℕ → Config → Trial

unfoldable pub trial : ℕ → (ℕ → ℕ) → Code → Config → Trial
trial block words x c = cond (heap_ok block c.state.size) (cond (fields_ok (fields_of x)) (took (step words x c)) (refused 1 c)) (refused 0 c)

abbrev pub trial_of : Result Went Malformed → View → Option (ℕ × ℕ) → List Call → Trial
trial_of (Ok w) s q calls = took (outcome_of w s q calls)
trial_of (Err m) s q calls = refused m.place (config s q calls)

-- the scope's number and values: 0 where the instruction is performed; a fault comes after no step, at place 1
abbrev pub step_cause : Trial → List ℕ
step_cause (took (next c)) = ACCEPTED ∷ []
step_cause (took (jump label c)) = ACCEPTED ∷ []
step_cause (took (end c)) = ACCEPTED ∷ []
step_cause (took (fault c)) = FAULT ∷ 0 ∷ 1 ∷ []
step_cause (refused place c) = MALFORMED ∷ place ∷ []
