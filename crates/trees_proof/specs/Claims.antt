-- What the crate promises: the records of a tree, run by the scope's machine, do what the tree does. Alone, from the first record with any step limit from
-- their number up; and as a part of a longer list, with any configuration before them and any records around them that hold none of their labels.
-- Places in a list of records are counted from 0; the place in a fault is that of the record that faults, counted from 1.
use Rattle.std.specs.Prelude.{ℕ, suc, ◌+◌, ◌≤◌, ◌<◌, ◌≡◌, List, [], ◌++◌, length, Ok, Err}
use Rattle.records.specs.declared.code.Code.{Code}
use Rattle.trees.specs.Tree.{Tree, labels, size, flat_at, flat}
use Rattle.machine_step.specs.View.{View}
use Rattle.machine_step.specs.Step.{Config}
use Rattle.machine.specs.declared.run.Stop.TheVariants.{Fault}
use Rattle.machine.specs.Run.{Done, places_of, runs, started, starting}
use Rattle.machine.specs.Run as machine
use Rattle.trees_proof.specs.Evaluation.{Evaluated, done, faulted, evaluate}

-- at most `most` steps lead from place `from` with the configuration c to place `to` with d, whatever number of steps is left then and was made before
pub record RunsTo (words : ℕ → ℕ) (p : List Code) (most from to : ℕ) (c d : Config) : Type 0 where
  pub steps : ℕ
  pub within : steps ≤ most
  pub run : (left made : ℕ) → runs words p (steps + left) made from c ≡ runs words p left (made + steps) to d

-- fewer than `most` steps lead to a fault that leaves the configuration d, at one of the records from place `from` to the one before place `to`
pub record Faults (words : ℕ → ℕ) (p : List Code) (most from to : ℕ) (c d : Config) : Type 0 where
  pub steps : ℕ
  pub within : steps < most
  pub place : ℕ
  pub above : from < place
  pub below : place ≤ to
  pub run : (left made : ℕ) → runs words p (steps + suc left) made from c ≡ machine.done (Err (Fault (made + steps) place)) d

-- a run as the tree evaluates: to the end of its records, or to a fault among them
abbrev pub RunsAs : (ℕ → ℕ) → List Code → ℕ → ℕ → ℕ → Config → Evaluated → Type 0
RunsAs words p most from to c (done d) = RunsTo words p most from to c d
RunsAs words p most from to c (faulted d) = Faults words p most from to c d

-- no LAB record of p has a label above low and up to high
abbrev pub Without : ℕ → ℕ → List Code → Type 0
Without low high p = (label : ℕ) → low < label → label ≤ high → places_of label p 0 ≡ []

-- a tree's records as a part of a longer list, where n labels above the counter c were drawn before, and no record around them marks one of the tree's own
unfoldable pub TreeRunsWithin : Type 0
TreeRunsWithin =
    (words : ℕ → ℕ) (t : Tree) (c n : ℕ) (before after : List Code) (z : Config) → Without (c + n) (c + n + labels t) before → Without (c + n) (c + n + labels t) after
    → RunsAs words (before ++ (flat_at t c n ++ after)) (size t) (length before) (length before + size t) z (evaluate words t z)

-- a whole run of `most` records: it ends where the tree is done and faults where the tree does, and leaves the tree's configuration: state, pair and calls
abbrev pub RunAnswers : ℕ → Done → Evaluated → Type 0
RunAnswers most r (done d) = (k : ℕ) × (k ≤ most) × (r ≡ machine.done (Ok k) d)
RunAnswers most r (faulted d) = (k : ℕ) × (place : ℕ) × (k < most) × (0 < place) × (place ≤ most) × (r ≡ machine.done (Err (Fault k place)) d)

-- a tree's records alone, from the first, with no compare made and no call, and a step limit of their number or more
unfoldable pub TreeRunsWhole : Type 0
TreeRunsWhole =
    (words : ℕ → ℕ) (t : Tree) (c more : ℕ) (v : View) → RunAnswers (size t) (started words (flat t c) (size t + more) v) (evaluate words t (starting v))
