-- What an emitter leaves: the output with its records written from the cursor, each that fits whole, and the cursor past them.
use Rattle.std.specs.Prelude.{ℕ, ◌+◌, ◌*◌, ◌≡◌, List, [], ◌∷◌, length}
use Rattle.records.specs.declared.code.Code.{Code}
use Rattle.records.specs.declared.code.Fields.{Fields}
use Rattle.records.specs.Bytes.{stored}
use Rattle.records.specs.Codes.{fields, fields_of}
use Rattle.records.specs.Instructions.{fields_bytes}
use Rattle.trees.specs.Tree.{Tree, labels, size, flat}
use Rattle.emit.specs.declared.cursor.Cursor.{Cursor}
use Rattle.emit.specs.declared.cursor.Row.{Row}

abbrev pub row_fields : Row → Fields
row_fields r = fields r.0 r.1 r.2 r.3 r.4 r.5

-- the output with the records in a row from byte i, each where it fits whole
abbrev pub written : List ℕ → ℕ → List Fields → List ℕ
written o i [] = o
written o i (f ∷ fs) = written (stored o i (fields_bytes f)) (i + 24) fs

abbrev pub fields_list : List Code → List Fields
fields_list [] = []
fields_list (c ∷ cs) = fields_of c ∷ fields_list cs

-- from the cursor p to q, the records fs, and n labels drawn
pub record Emitted (o : List ℕ) (p : Cursor) (o' : List ℕ) (q : Cursor) (fs : List Fields) (n : ℕ) : Type 0 where
  pub bytes : o' ≡ written o p.at fs
  pub place : q.at ≡ p.at + 24 * length fs
  pub drawn : q.counter ≡ p.counter + n

-- from the cursor p to q, the records of the tree t, its labels from p's counter on
pub record Emits (o : List ℕ) (p : Cursor) (o' : List ℕ) (q : Cursor) (t : Tree) : Type 0 where
  pub bytes : o' ≡ written o p.at (fields_list (flat t p.counter))
  pub place : q.at ≡ p.at + 24 * size t
  pub drawn : q.counter ≡ p.counter + labels t
