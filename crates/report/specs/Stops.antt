-- The line of a run that did not end: `5 compute: machine fault 11 after 3 steps at record 4, the channel stops here`. Numbers and values are the scope's,
-- 'Causes and numbers', by the `run_cause` that the contract of the machine's run cites.
use Rattle.std.specs.Prelude.{ℕ, cond, List, [], ◌∷◌, ◌++◌, eqb}
use Rattle.records.specs.Causes.{ACCEPTED, LIMIT}
use Rattle.text.specs.Text.{ascii}
use Rattle.machine.specs.Run.{run_cause, RunAnswer}
use Rattle.report.specs.Parts.{counted}
use Rattle.report.specs.Answers.{start}

-- the limit for 12; the place for 2, which is 0 for the heap; the steps done and the record's place for 11
unfoldable pub stop_words : ℕ → List ℕ → List ℕ
stop_words n [] = []
stop_words n (value ∷ []) =
    cond (eqb n LIMIT) (counted "step limit " n ++ counted " after " value ++ ascii " steps")
    (counted "run refused " n ++ counted " at place " value ++ ascii ", malformed record, or at place 0 the heap's size")
stop_words n (steps ∷ place ∷ more) = counted "machine fault " n ++ counted " after " steps ++ counted " steps at record " place

-- nothing where the number is 0: the run ended
unfoldable pub stopped : List ℕ → List ℕ → List ℕ
stopped head [] = []
stopped head (n ∷ values) = cond (eqb n ACCEPTED) [] (head ++ stop_words n values ++ ascii ", the channel stops here\n")

unfoldable pub stop_line : ℕ → List ℕ → RunAnswer → List ℕ
stop_line number order ran = stopped (start number order) (run_cause ran)
