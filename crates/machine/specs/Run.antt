-- A list of records, run from the first to its end, a fault or the step limit. From the scope, 'Machine' and rows 2, 11 and 12 of 'Causes and numbers'.
use Rattle.std.specs.Prelude.{ℕ, zero, suc, ◌≡◌, Bool, cond, List, [], ◌∷◌, None, Err, Some, Ok, Option, Result}
use Rattle.std.proofs.Math.Option.{Option as Element, none, some}
use Rattle.std.proofs.Math.ListN.{get_elem?}
use Rattle.records.specs.Causes.{ACCEPTED, MALFORMED, FAULT, LIMIT}
use Rattle.records.specs.declared.code.Code.{Code}
use Rattle.records.specs.Codes.{fields_of}
use Rattle.records.specs.Instructions.{lab_with, checked_codes}
use Rattle.records.specs.ReadBack.{items, code_in}
use Rattle.records.specs.Checked.{on_checked}
use Rattle.machine_step.specs.View.{View}
use Rattle.machine_step.specs.Memory.{heap_ok}
use Rattle.machine_step.specs.Step.{Config, config, Outcome, next, jump, end, fault, step}
use Rattle.machine.specs.declared.run.Stop.{Stop}
use Rattle.machine.specs.declared.run.Stop.TheVariants.{Malformed, Fault, Limit}

-- whether an instruction is LAB with a label
abbrev pub is_lab : ℕ → Code → Bool
is_lab label x = lab_with label (fields_of x)

-- the places, from i on, of the LAB records with a label
unfoldable pub places_of : ℕ → List Code → ℕ → List ℕ
places_of label [] i = []
places_of label (x ∷ xs) i = cond (is_lab label x) (i ∷ places_of label xs (suc i)) (places_of label xs (suc i))

abbrev pub the_one : List ℕ → Option ℕ
the_one [] = None
the_one (i ∷ []) = Some i
the_one (i ∷ j ∷ js) = None

-- the place of the one LAB record with a label, from 0
abbrev pub find : ℕ → List Code → Option ℕ
find label p = the_one (places_of label p 0)

-- the steps of a run that ended, or why it stopped
abbrev pub RunAnswer : Type 0
RunAnswer = Result ℕ Stop

-- what a run answers, and the configuration that it leaves
pub record Done : Type 0 where
  pub answer : RunAnswer
  pub last : Config

abbrev pub done : RunAnswer → Config → Done
done a c = record { answer = a; last = c }

abbrev pub on_record : Element Code → Done → (Code → Done) → Done
on_record none past here = past
on_record (some x) past here = here x

abbrev pub on_found : Option ℕ → Done → (ℕ → Done) → Done
on_found None lost at = lost
on_found (Some i) lost at = at i

-- after n steps, from an outcome of record i of p, counted from 0; c is the configuration before that record
abbrev pub follow : List Code → ℕ → ℕ → Config → (ℕ → Config → Done) → Outcome → Done
follow p n i c go (next d) = go (suc i) d
follow p n i c go (jump label d) = on_found (find label p) (done (Err (Fault n (suc i))) c) (λ j. go j d)
follow p n i c go (end d) = done (Ok (suc n)) d
follow p n i c go (fault d) = done (Err (Fault n (suc i))) d

-- at most `left` more steps of the records p, from record i on, after n steps
unfoldable pub runs : (ℕ → ℕ) → List Code → ℕ → ℕ → ℕ → Config → Done
runs words p zero n i c = on_record (get_elem? p i) (done (Ok n) c) (λ x. done (Err (Limit n)) c)
runs words p (suc left) n i c =
    on_record (get_elem? p i) (done (Ok n) c)
    (λ x. follow p n i c (λ j d. runs words p left (suc n) j d) (step words x c))

-- the instructions of the first n records of the bytes s
abbrev pub codes_of : ℕ → List ℕ → List Code
codes_of n s = items 24 code_in n s

-- a configuration that a run starts with: no compare made and no call
abbrev pub starting : View → Config
starting s = config s None []

-- from the first record
abbrev pub started : (ℕ → ℕ) → List Code → ℕ → View → Done
started words p limit s = runs words p limit 0 0 (starting s)

-- the whole run of the records in the bytes s, where a block has so many words
unfoldable pub ran : ℕ → (ℕ → ℕ) → List ℕ → ℕ → View → Done
ran block words s limit v =
    cond (heap_ok block v.size)
    (on_checked (checked_codes 65536 s) (λ n. started words (codes_of n s) limit v) (λ place. done (Err (Malformed place)) (starting v)))
    (done (Err (Malformed 0)) (starting v))

-- the scope's number and values for each answer: 0, with the steps, where the run ended
abbrev pub run_cause : RunAnswer → List ℕ
run_cause (Ok steps) = ACCEPTED ∷ steps ∷ []
run_cause (Err (Malformed place)) = MALFORMED ∷ place ∷ []
run_cause (Err (Fault steps place)) = FAULT ∷ steps ∷ place ∷ []
run_cause (Err (Limit limit)) = LIMIT ∷ limit ∷ []

-- an answer a beside a state and a heap seen as v, as a run leaves them
pub record Leaves (a : RunAnswer) (v : View) (d : Done) : Type 0 where
  pub answer : a ≡ d.answer
  pub cause : run_cause a ≡ run_cause d.answer
  pub last : v ≡ d.last.state
