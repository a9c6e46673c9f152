-- Structured code: records in sequence, a part that is skipped if a word is zero, and a choice between two parts.
-- A tree's records are the tree flattened from a label counter; inner labels are drawn first, "then" before "else".
-- From memory.rs, skip_if_zero and if_zero_then_else, and the scope, 'Instruction record', on labels.
use Rattle.std.specs.Prelude.{ℕ, ◌+◌, ◌≡◌, leb, Bool, true, not, ◌&&◌, ◌||◌, List, [], ◌∷◌, ◌++◌}
use Rattle.records.specs.declared.code.Code.{Code}
use Rattle.records.specs.declared.code.Code.TheVariants.{JMPL, JEL, LAB}
use Rattle.records.specs.Codes.{fields_of}

abbrev among : ℕ → ℕ → ℕ → Bool
among first last n = leb first n && leb n last

-- whether a record goes on to the next one: no jump (JMP, JMPL and JMPLN have the codes 16 to 18, JEL to JGEL 30 to 35), no return (39) and no label (40)
abbrev pub straight : Code → Bool
straight x = not (among 16 18 (fields_of x).code || (among 30 35 (fields_of x).code || among 39 40 (fields_of x).code))

pub data Tree : Type 0 where
  nop : Tree
  leaf : (x : Code) → straight x ≡ true → Tree
  seq : Tree → Tree → Tree
  -- the compare x, and the part unless x finds equal
  skip_if_zero : (x : Code) → straight x ≡ true → Tree → Tree
  -- the compare x, the first part if it finds equal, else the second
  if_zero : (x : Code) → straight x ≡ true → Tree → Tree → Tree

-- how many labels a tree draws
abbrev pub labels : Tree → ℕ
labels nop = 0
labels (leaf x p) = 0
labels (seq t u) = labels t + labels u
labels (skip_if_zero x p t) = labels t + 1
labels (if_zero x p t e) = labels t + labels e + 2

-- how many records it has
abbrev pub size : Tree → ℕ
size nop = 0
size (leaf x p) = 1
size (seq t u) = size t + size u
size (skip_if_zero x p t) = size t + 3
size (if_zero x p t e) = size t + size e + 5

-- its records, where n labels above the counter c are drawn already
abbrev pub flat_at : Tree → ℕ → ℕ → List Code
flat_at nop c n = []
flat_at (leaf x p) c n = x ∷ []
flat_at (seq t u) c n = flat_at t c n ++ flat_at u c (n + labels t)
flat_at (skip_if_zero x p t) c n =
    x ∷ JEL (c + (n + labels t + 1)) ∷ (flat_at t c n ++ LAB (c + (n + labels t + 1)) ∷ [])
flat_at (if_zero x p t e) c n =
    x ∷ JEL (c + (n + labels t + labels e + 1)) ∷ (flat_at e c (n + labels t)
    ++ (JMPL (c + (n + labels t + labels e + 2)) ∷ LAB (c + (n + labels t + labels e + 1)) ∷ (flat_at t c n
    ++ LAB (c + (n + labels t + labels e + 2)) ∷ [])))

-- its records from the counter c
abbrev pub flat : Tree → ℕ → List Code
flat t c = flat_at t c 0
