-- How the code goes about a run: labels sought in the bytes, and the place after a record. The meaning of a run does not rest on this; the contract of the
-- public function cites `ran` alone.
use Rattle.std.specs.Prelude.{ℕ, suc, ◌+◌, ◌-◌, ◌*◌, ◌≤◌, ◌<◌, ◌≡◌, true, List, [], ◌∷◌, length, drop, None, Some, Option}
use Rattle.records.specs.declared.code.Code.{Code}
use Rattle.records.specs.Instructions.{code_starts}
use Rattle.records.specs.ReadBack.{code_in}
use Rattle.machine_step.specs.declared.instruction.Went.{Went}
use Rattle.machine_step.specs.declared.instruction.Went.TheVariants.{Next, Called, Jump, End, Fault}
use Rattle.machine_step.specs.View.{View}
use Rattle.machine_step.specs.Step.{Call, config, outcome_of, step}
use Rattle.machine.specs.declared.run.Turn.{Turn}
use Rattle.machine.specs.declared.run.Turn.TheVariants as turn
use Rattle.machine.specs.Run.{Done, places_of, find, codes_of, RunAnswer}

-- n whole, well-formed records in the bytes s
pub record ListedCodes (s : List ℕ) (n : ℕ) : Type 0 where
  pub whole : 24 * n ≤ length s
  pub starts : (k : ℕ) → k < n → code_starts (drop (24 * k) s) ≡ true

-- of n records in s, the places from k on of the LAB records with a label
abbrev pub places_from : ℕ → List ℕ → ℕ → ℕ → List ℕ
places_from label s n k = places_of label (codes_of (n - k) (drop (24 * k) s)) k

-- the first of them, where there is one
abbrev pub First : ℕ → List ℕ → ℕ → ℕ → Option ℕ → Type 0
First label s n k (Some i) = (i < n) × (places_from label s n k ≡ i ∷ places_from label s n (i + 1))
First label s n k None = places_from label s n k ≡ []

abbrev pub turn_to : Option ℕ → Turn
turn_to (Some k) = turn.To k
turn_to None = turn.Fault

-- what follows record i, by its answer
abbrev pub turn_of : List Code → ℕ → Went → Turn
turn_of p i Next = turn.To (suc i)
turn_of p i (Called name number) = turn.To (suc i)
turn_of p i (Jump label) = turn_to (find label p)
turn_of p i End = turn.End
turn_of p i Fault = turn.Fault

-- one step, at record `place` of n in s: from what is seen as v, with the last compare q, to v' and q', and what follows
pub record Turns (words : ℕ → ℕ) (n : ℕ) (s : List ℕ) (place : ℕ) (v : View) (q : Option (ℕ × ℕ)) (v' : View) (q' : Option (ℕ × ℕ)) (t : Turn) : Type 0 where
  pub went : Went
  pub goes : (calls : List Call) → outcome_of went v' q' calls ≡ step words (code_in (drop (24 * place) s)) (config v q calls)
  pub turn : t ≡ turn_of (codes_of n s) place went

-- registers, stack and heap seen as v are as a run leaves them, with its answer
pub record EndsBy (v : View) (a : RunAnswer) (d : Done) : Type 0 where
  pub answer : a ≡ d.answer
  pub last : v ≡ d.last.state
