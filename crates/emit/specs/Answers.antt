-- What an operation answers and leaves in its output, where nothing but the labels or the room can refuse it, and where there is no such frame.
-- From the scope, 'Causes and numbers', and 'Job 2': 15 to 17 before 3, 9 before 10, a refusal writes nothing, output bytes past the records stay.
use Rattle.records.specs.declared.context.Flaw.{Flaw}
use Rattle.std.specs.Prelude.{ℕ, ◌+◌, ◌*◌, ◌/◌, Bool, true, false, ◌&&◌, cond, ◌≡◌, List, [], ◌∷◌, leb, ltb, Err, Ok, Result}
use Rattle.std.proofs.lemmas.List.Edits.{sets}
use Rattle.records.specs.Causes.{ACCEPTED, MALFORMED, OPERAND, MISSING, ARGUMENTS, COUNT, POSITION, LABELS, ROOM, EDITION}
use Rattle.records.specs.declared.code.Code.{Code}
use Rattle.records.specs.Contexts.{flaw_cause, on_context}
use Rattle.records.specs.ReadBack.{joined, code_bytes}
use Rattle.records.specs.Names.{last_label}
use Rattle.emit.specs.declared.answer.Written.{Written}
use Rattle.emit.specs.declared.answer.Refusal.{Refusal}
use Rattle.emit.specs.declared.answer.Refusal.TheVariants.{Context, Body, Operand, Missing, Arguments, Count, Position, Labels, Room, Edition}

abbrev pub Answer : Type 0
Answer = Result Written Refusal

-- so many records, and the counter after them
abbrev pub written_with : ℕ → ℕ → Written
written_with n counter = record { records = n; counter = counter }

-- the scope's number and values for each answer: 0, with the records and the counter after them, where they are written
abbrev pub cause_of : Answer → List ℕ
cause_of (Ok w) = ACCEPTED ∷ w.records ∷ w.counter ∷ []
cause_of (Err (Context flaw)) = flaw_cause flaw
cause_of (Err (Body place)) = MALFORMED ∷ place ∷ []
cause_of (Err Operand) = OPERAND ∷ []
cause_of (Err Missing) = MISSING ∷ []
cause_of (Err Arguments) = ARGUMENTS ∷ []
cause_of (Err Count) = COUNT ∷ []
cause_of (Err Position) = POSITION ∷ []
cause_of (Err Labels) = LABELS ∷ []
cause_of (Err (Room bytes)) = ROOM ∷ bytes ∷ []
cause_of (Err Edition) = EDITION ∷ []

-- 15 to 17 come before 3, which another number of spills than a frame has is: by the context that is read
abbrev pub unframed : Result ℕ Flaw → Answer
unframed read = on_context read (λ n. Err Operand) (λ flaw. Err (Context flaw))

-- the answer for records of so many bytes that draw n labels
unfoldable pub granted : ℕ → ℕ → ℕ → ℕ → Answer
granted counter room bytes n =
    cond (ltb last_label (counter + n)) (Err Labels) (cond (ltb room bytes) (Err (Room bytes)) (Ok (written_with (bytes / 24) (counter + n))))

-- whether neither labels nor room can be wanting, where at most so many labels and records are asked for
unfoldable pub ample : ℕ → ℕ → ℕ → ℕ → Bool
ample counter room labels records = leb (counter + labels) last_label && leb (24 * records) room

abbrev pub accepted : Answer → Bool
accepted (Ok w) = true
accepted (Err refusal) = false

-- the output: the records from its start where they are written, else as it was
abbrev pub output : Answer → List ℕ → List Code → List ℕ
output r o cs = cond (accepted r) (sets o 0 (joined code_bytes cs)) o

-- what a public operation ensures: its answer r is the one expected, with the scope's number and values, and the output holds the records cs if it is written
pub record Answers (o o' : List ℕ) (r expected : Answer) (cs : List Code) : Type 0 where
  pub answer : r ≡ expected
  pub cause : cause_of r ≡ cause_of expected
  pub bytes : o' ≡ output expected o cs
