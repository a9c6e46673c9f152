-- Instruction records: their 24 bytes, which are well formed, and what is read from them. From the scope, 'Instruction record'.
use Rattle.records.specs.declared.code.Code.{Code}
use Rattle.records.specs.declared.check.Malformed.{Malformed}
use Rattle.std.specs.Prelude.{ℕ, suc, ◌*◌, ◌%◌, min, Bool, true, not, ◌&&◌, ◌||◌, cond, List, [], ◌∷◌, ◌++◌, leb, ltb, eqb, length, get_or, drop, None, Some, Result, Option}
use Rattle.records.specs.Causes.{ACCEPTED, MALFORMED}
use Rattle.records.specs.declared.code.Fields.{Fields}
use Rattle.records.specs.Bytes.{le, number}
use Rattle.records.specs.Checked.{checked}
use Rattle.records.specs.Codes.{fields, fields_of, code_of}
use Rattle.records.specs.Names.{first_unnamed, last_unnamed}

-- the 24 bytes of a record
unfoldable pub fields_bytes : Fields → List ℕ
fields_bytes f = 0xA9 ∷ f.code ∷ f.a ∷ f.b ∷ (le 4 f.label ++ (le 8 f.offset ++ le 8 f.value))

-- the fields in the 24 bytes that start a list
unfoldable pub fields_in : List ℕ → Fields
fields_in s = fields (get_or s 1 0) (get_or s 2 0) (get_or s 3 0) (number 4 s 4) (number 8 s 8) (number 8 s 16)

-- which fields a code from 1 to 44 uses: 1 in each that does, as a record of that code made of ones shows it
unfoldable pub used : ℕ → Fields
used code = fields_of (code_of (fields code 1 1 1 1 1))

-- a register is 0 to 15; one that is not used is zero
abbrev pub register_ok : Bool → ℕ → Bool
register_ok uses r = cond uses (ltb r 16) (eqb r 0)

-- a label is not 0 and not 2^31 plus 4..15
abbrev pub outside_unnamed : ℕ → Bool
outside_unnamed l = ltb l first_unnamed || ltb last_unnamed l

abbrev pub label_held : ℕ → Bool
label_held l = not (eqb l 0) && outside_unnamed l

abbrev pub label_ok : Bool → ℕ → Bool
label_ok uses l = cond uses (label_held l) (eqb l 0)

-- an offset or a value is any 64 bits
abbrev pub word_ok : Bool → ℕ → Bool
word_ok uses w = cond uses true (eqb w 0)

-- the largest value of a field, where u is 1 if it is used
abbrev pub most_if : ℕ → ℕ → ℕ
most_if u most = cond (eqb u 1) most 0

-- the largest value of each field, where u has a 1 in those that are used: 15 in a register, and all bits set in the others
unfoldable pub largest : Fields → Fields
largest u =
    fields u.code (most_if u.a 15) (most_if u.b 15) (most_if u.label 4294967295)
    (most_if u.offset 18446744073709551615) (most_if u.value 18446744073709551615)

-- a label by the largest value of its field: 0 where that is 0; else that is odd, and the label is not 0
abbrev pub label_within : ℕ → ℕ → Bool
label_within most l = leb l most && leb (most % 2) l && outside_unnamed l

-- each field as its use asks, where u has a 1 in those that are used
unfoldable pub operands_ok : Fields → Fields → Bool
operands_ok u f =
    register_ok (eqb u.a 1) f.a
    && register_ok (eqb u.b 1) f.b
    && label_ok (eqb u.label 1) f.label
    && word_ok (eqb u.offset 1) f.offset
    && word_ok (eqb u.value 1) f.value

unfoldable pub fields_ok : Fields → Bool
fields_ok f = leb 1 f.code && leb f.code 44 && operands_ok (used f.code) f

-- whether a record with the fields f is LAB's, with a label
abbrev pub lab_with : ℕ → Fields → Bool
lab_with label f = eqb f.code 40 && eqb f.label label

-- whether a list starts with a whole, well-formed record
unfoldable pub code_starts : List ℕ → Bool
code_starts s = leb 24 (length s) && eqb (get_or s 0 0) 0xA9 && fields_ok (fields_in s)

-- a list of at most 65,536 records, or fewer where the caller has a lower limit
abbrev pub checked_codes : ℕ → List ℕ → Result ℕ Malformed
checked_codes most s = checked code_starts 24 (min most 65536) s

-- record k, counted from 0
unfoldable pub code_at : List ℕ → ℕ → Option Code
code_at s k = cond (code_starts (drop (24 * k) s)) (Some (code_of (fields_in (drop (24 * k) s)))) None

-- the scope's number and place for the answer on record k, 0 where it is read
abbrev pub code_cause : ℕ → Option Code → List ℕ
code_cause k (Some c) = ACCEPTED ∷ []
code_cause k None = MALFORMED ∷ suc k ∷ []
