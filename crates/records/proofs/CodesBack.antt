-- An instruction written as a record and read back, and a record read as an instruction and written again.
use Prim.Native.Nat.{ℕ, ◌≤◌}
use mathlib.Core.Path.{◌≡◌, refl, ◌∙◌}
use mathlib.Core.Bool.{Bool, true, ◌&&◌, ◌||◌}
use mathlib.Core.List.{List, ◌++◌}
use native.Mathlib.Omega.{arith}
use lib.Dec.{leb, ltb, eqb}
use lib.ListN.{length, get_or, drop}
use borrow.Author.Tests.{le-leb, leb-true, eqb-true}
use Rattle.records.specs.declared.code.Code.{Code}
use Rattle.records.specs.declared.code.Code.TheVariants.{ADD, ADDRM, ADDMR, ADDI, ADDIM, SUB, SUBRM, SUBMR, SUBI, IMUL, IMULRM, IMULMR, IDIV, IDIVM, CQO, JMP, JMPL, JMPLN, LEAL, MOV, MOVS, MOVL, MOVI, MOVIM, CMP, CMPRM, CMPMR, CMPI, CMPIM, JEL, JNEL, JLL, JLEL, JGL, JGEL, PUSH, POP, CALL, RET, LAB, NOEXECSTACK, TEXT, GLOBAL, EXTERN}
use Rattle.records.specs.declared.code.Fields.{Fields}
use Rattle.records.specs.Bytes.{le, number}
use Rattle.records.specs.Codes.{fields, fields_of, readers, code_of}
use Rattle.records.specs.Instructions.{fields_bytes, fields_in, used, label_ok, operands_ok, fields_ok, code_starts}
use Rattle.records.specs.ReadBack.{Bytes, WellFormedCode, code_bytes, code_in}
use Rattle.records.proofs.Conditions.{and_right, both}
use Rattle.records.proofs.CodesRead.{ok_code}
use Rattle.records.proofs.Digits.{number_le, le_number, first_four}
use Rattle.records.proofs.Joined.{Laws}
use Rattle.records.proofs.Kept.{kept, kept_whole, kept_last, read_at}

-- the codes that use a label: jmpl to leal, the six conditional jumps, call, lab, global and extern
abbrev labels : ℕ → Bool
labels code = (leb 17 code && leb code 19) || (leb 30 code && leb code 35) || eqb code 38 || eqb code 40 || leb 43 code

-- whether an instruction uses a label
abbrev pub labelled : Code → Bool
labelled c = labels (fields_of c).code

-- an instruction is that of its fields, which are well formed by their bounds: what its code does not use is zero in its record
code_facts : (c : Code) → (code_of (fields_of c) ≡ c) × (fields_ok (fields_of c) ≡ ltb (fields_of c).a 16 && ltb (fields_of c).b 16 && label_ok (labelled c) (fields_of c).label && true && true)
unfolding code_of readers fields_ok operands_ok used
code_facts (ADD a b) = (refl, refl)
code_facts (ADDRM a b o) = (refl, refl)
code_facts (ADDMR a o b) = (refl, refl)
code_facts (ADDI a v) = (refl, refl)
code_facts (ADDIM a o v) = (refl, refl)
code_facts (SUB a b) = (refl, refl)
code_facts (SUBRM a b o) = (refl, refl)
code_facts (SUBMR a o b) = (refl, refl)
code_facts (SUBI a v) = (refl, refl)
code_facts (IMUL a b) = (refl, refl)
code_facts (IMULRM a b o) = (refl, refl)
code_facts (IMULMR a o b) = (refl, refl)
code_facts (IDIV a) = (refl, refl)
code_facts (IDIVM a o) = (refl, refl)
code_facts CQO = (refl, refl)
code_facts (JMP a) = (refl, refl)
code_facts (JMPL l) = (refl, refl)
code_facts (JMPLN l) = (refl, refl)
code_facts (LEAL a l) = (refl, refl)
code_facts (MOV a b) = (refl, refl)
code_facts (MOVS a b o) = (refl, refl)
code_facts (MOVL a b o) = (refl, refl)
code_facts (MOVI a v) = (refl, refl)
code_facts (MOVIM a o v) = (refl, refl)
code_facts (CMP a b) = (refl, refl)
code_facts (CMPRM a b o) = (refl, refl)
code_facts (CMPMR a o b) = (refl, refl)
code_facts (CMPI a v) = (refl, refl)
code_facts (CMPIM a o v) = (refl, refl)
code_facts (JEL l) = (refl, refl)
code_facts (JNEL l) = (refl, refl)
code_facts (JLL l) = (refl, refl)
code_facts (JLEL l) = (refl, refl)
code_facts (JGL l) = (refl, refl)
code_facts (JGEL l) = (refl, refl)
code_facts (PUSH a) = (refl, refl)
code_facts (POP a) = (refl, refl)
code_facts (CALL l) = (refl, refl)
code_facts RET = (refl, refl)
code_facts (LAB l) = (refl, refl)
code_facts NOEXECSTACK = (refl, refl)
code_facts TEXT = (refl, refl)
code_facts (GLOBAL l) = (refl, refl)
code_facts (EXTERN l) = (refl, refl)

pub code_fields : (c : Code) → code_of (fields_of c) ≡ c
code_fields c = (code_facts c).0

pub ok_fields : (c : Code) → fields_ok (fields_of c) ≡ ltb (fields_of c).a 16 && ltb (fields_of c).b 16 && label_ok (labelled c) (fields_of c).label && true && true
ok_fields c = (code_facts c).1

-- the fields of f that are used, where u has a 1 in those
abbrev kept_fields : ℕ → Fields → Fields → Fields
kept_fields code u f =
    fields code (kept u.a f.a) (kept u.b f.b) (kept u.label f.label) (kept u.offset f.offset) (kept u.value f.value)

kept_fields_lem : (u f : Fields) → operands_ok u f ≡ true → kept_fields f.code u f ≡ f
unfolding operands_ok
kept_fields_lem u f e =
    let k₅ = kept_last _ u.value f.value _ e in
    let k₄ = kept_last _ u.offset f.offset _ k₅.0 in
    let k₃ = kept_last _ u.label f.label _ k₄.0 in
    let k₂ = kept_last _ u.b f.b _ k₃.0 in
    rw (kept_whole u.a f.a _ k₂.0, k₂.1, k₃.1, k₄.1, k₅.1)

pub fields_code : (f : Fields) → fields_ok f ≡ true → fields_of (code_of f) ≡ f
unfolding code_of readers used fields_ok
fields_code f e =
    let r = ok_code f e in
    read_at readers fields_of (λ code. kept_fields code (used code) f) 44 f refl f.code (λ (g : Fields). EXTERN g.label) r.0 r.1
    ∙ kept_fields_lem (used f.code) f (and_right (leb 1 f.code && leb f.code 44) (operands_ok (used f.code) f) e)

module _ (c : Code) (rest : List ℕ) (w : WellFormedCode c) where
  fields_in_lem : fields_in (code_bytes c ++ rest) ≡ fields_of c
  unfolding fields_in fields_bytes number le
  fields_in_lem =
      let f = fields_of c in
      rw (number_le 4 f.label w.label_fits, number_le 8 f.offset w.offset_fits, number_le 8 f.value w.value_fits)

  starts : code_starts (code_bytes c ++ rest) ≡ true
  unfolding code_starts fields_bytes le
  starts = rw (fields_in_lem, w.ok, le-leb 24 (length (code_bytes c ++ rest)) (omega arith))

  code_in_lem : code_in (code_bytes c ++ rest) ≡ c
  code_in_lem = rw fields_in_lem (code_fields c)

module _ (s : List ℕ) (e : code_starts s ≡ true) where
  parts : (24 ≤ length s) × (get_or s 0 0 ≡ 0xA9) × (fields_ok (fields_in s) ≡ true)
  unfolding code_starts
  parts =
      let p₂ = both _ (fields_ok (fields_in s)) e in
      let p₁ = both _ (eqb (get_or s 0 0) 0xA9) p₂.0 in
      (leb-true 24 _ p₁.0, eqb-true _ 0xA9 p₁.1, p₂.1)

  written : Bytes s → code_bytes (code_in s) ++ drop 24 s ≡ s
  unfolding fields_bytes fields_in le
  written bytes =
      let h = parts.0 in
      rw (fields_code (fields_in s) parts.2, le_number s bytes 8 16 h, le_number s bytes 8 8 (omega arith), le_number s bytes 4 4 (omega arith))
      (rw parts.1 at (first_four s (omega arith)))

pub code_laws : Laws 24 code_bytes code_starts code_in WellFormedCode
unfolding fields_bytes le
code_laws = record { long = λ c. refl; good = starts; same = code_in_lem; back = written }
