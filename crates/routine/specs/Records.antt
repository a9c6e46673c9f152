-- The bytes of a routine around an accepted body are those of its records: the ones before the body, the body's, the cleanup's.
use Rattle.std.specs.Prelude.{ℕ, ◌≡◌, List, ◌++◌, Ok}
use Rattle.records.specs.Instructions.{checked_codes}
use Rattle.records.specs.ReadBack.{Bytes, joined, items, code_bytes, code_in}
use Rattle.layout.specs.declared.config.Shape.{Shape}
use Rattle.routine.specs.Routine.{head, cleanup, routine_bytes}

abbrev pub RoutineIsRecords : Type 0
RoutineIsRecords =
    (g : Shape) (n k : ℕ) (body : List ℕ) → Bytes body → checked_codes 65506 body ≡ Ok k
    → routine_bytes g n body ≡ joined code_bytes (head g n ++ (items 24 code_in k body ++ cleanup g))
