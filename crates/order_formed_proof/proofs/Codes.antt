-- An instruction is well formed by the bounds of its operands alone: what its code does not use is zero in its record.
use Prim.Native.Nat.{ℕ, ◌^◌, ◌<◌}
use mathlib.Core.Path.{◌≡◌, refl, ◌∙◌}
use mathlib.Core.Bool.{true, false}
use native.Mathlib.Omega.{arith}
use borrow.Author.Tests.{lt-ltb, ne_eqb}
use Rattle.records.specs.declared.code.Code.{Code}
use Rattle.records.specs.declared.code.Code.TheVariants.{ADD, ADDRM, ADDMR, ADDI, ADDIM, SUB, SUBRM, SUBMR, SUBI, IMUL, IMULRM, IMULMR, IDIV, IDIVM, CQO, JMP, JMPL, JMPLN, LEAL, MOV, MOVS, MOVL, MOVI, MOVIM, CMP, CMPRM, CMPMR, CMPI, CMPIM, JEL, JNEL, JLL, JLEL, JGL, JGEL, PUSH, POP, CALL, LAB}
use Rattle.records.specs.Codes.{fields_of}
use Rattle.records.specs.Instructions.{label_held, label_ok}
use Rattle.records.specs.ReadBack.{WellFormedCode}
use Rattle.records.proofs.CodesBack.{labelled, ok_fields}
use Rattle.records.specs.Names.{first_unnamed}
use Rattle.code.specs.declared.emitters.Condition.{Condition}
use Rattle.code.specs.declared.emitters.Condition.TheVariants.{Equal, NotEqual, Less, LessOrEqual, Greater, GreaterOrEqual}
use Rattle.code.specs.Code.{jump_if}

-- a label that a record may hold
pub record Held (l : ℕ) : Type 0 where
  pub fits : l < 2 ^ 32
  pub ok : label_held l ≡ true

-- those that are drawn, and the names of print's functions: from 1 to 2^31 + 3
pub drawn : {l : ℕ} → 0 < l → l < first_unnamed → Held l
drawn {l} z h = record { fits = omega arith; ok = rw (ne_eqb l 0 (omega arith), lt-ltb l first_unnamed h) }

module _ (c : Code) (a : (fields_of c).a < 16) (b : (fields_of c).b < 16) (o : (fields_of c).offset < 2 ^ 64) (v : (fields_of c).value < 2 ^ 64) where
  general : (fields_of c).label < 2 ^ 32 → label_ok (labelled c) (fields_of c).label ≡ true → WellFormedCode c
  general h e =
      record { label_fits = h; offset_fits = o; value_fits = v; ok = ok_fields c ∙ rw (lt-ltb (fields_of c).a 16 a, lt-ltb (fields_of c).b 16 b, e) }

  -- a code that uses no label
  plain : labelled c ≡ false → (fields_of c).label ≡ 0 → WellFormedCode c
  plain n z = general (omega (arith, z)) (rw (n, z))

  -- one that uses a label
  named : labelled c ≡ true → Held (fields_of c).label → WellFormedCode c
  named n h = general h.fits (rw n h.ok)

module _ {l : ℕ} (h : Held l) where
  pub lab : WellFormedCode (LAB l)
  lab = named (LAB l) (omega arith) (omega arith) (omega arith) (omega arith) refl h

  pub jmpl : WellFormedCode (JMPL l)
  jmpl = named (JMPL l) (omega arith) (omega arith) (omega arith) (omega arith) refl h

  pub jmpln : WellFormedCode (JMPLN l)
  jmpln = named (JMPLN l) (omega arith) (omega arith) (omega arith) (omega arith) refl h

  pub call : WellFormedCode (CALL l)
  call = named (CALL l) (omega arith) (omega arith) (omega arith) (omega arith) refl h

  pub leal : {a : ℕ} → a < 16 → WellFormedCode (LEAL a l)
  leal {a} r = named (LEAL a l) r (omega arith) (omega arith) (omega arith) refl h

  pub jump_if_lem : (k : Condition) → WellFormedCode (jump_if k l)
  jump_if_lem Equal = named (JEL l) (omega arith) (omega arith) (omega arith) (omega arith) refl h
  jump_if_lem NotEqual = named (JNEL l) (omega arith) (omega arith) (omega arith) (omega arith) refl h
  jump_if_lem Less = named (JLL l) (omega arith) (omega arith) (omega arith) (omega arith) refl h
  jump_if_lem LessOrEqual = named (JLEL l) (omega arith) (omega arith) (omega arith) (omega arith) refl h
  jump_if_lem Greater = named (JGL l) (omega arith) (omega arith) (omega arith) (omega arith) refl h
  jump_if_lem GreaterOrEqual = named (JGEL l) (omega arith) (omega arith) (omega arith) (omega arith) refl h

-- register a, and with it an offset or a value
module _ {a : ℕ} (h : a < 16) where
  pub jmp : WellFormedCode (JMP a)
  jmp = plain (JMP a) h (omega arith) (omega arith) (omega arith) refl refl

  pub idiv : WellFormedCode (IDIV a)
  idiv = plain (IDIV a) h (omega arith) (omega arith) (omega arith) refl refl

  pub push : WellFormedCode (PUSH a)
  push = plain (PUSH a) h (omega arith) (omega arith) (omega arith) refl refl

  pub pop : WellFormedCode (POP a)
  pop = plain (POP a) h (omega arith) (omega arith) (omega arith) refl refl

  module _ {o : ℕ} (f : o < 2 ^ 64) where
    pub idivm : WellFormedCode (IDIVM a o)
    idivm = plain (IDIVM a o) h (omega arith) f (omega arith) refl refl

    module _ {v : ℕ} (q : v < 2 ^ 64) where
      pub addim : WellFormedCode (ADDIM a o v)
      addim = plain (ADDIM a o v) h (omega arith) f q refl refl

      pub movim : WellFormedCode (MOVIM a o v)
      movim = plain (MOVIM a o v) h (omega arith) f q refl refl

      pub cmpim : WellFormedCode (CMPIM a o v)
      cmpim = plain (CMPIM a o v) h (omega arith) f q refl refl

  module _ {v : ℕ} (q : v < 2 ^ 64) where
    pub addi : WellFormedCode (ADDI a v)
    addi = plain (ADDI a v) h (omega arith) (omega arith) q refl refl

    pub subi : WellFormedCode (SUBI a v)
    subi = plain (SUBI a v) h (omega arith) (omega arith) q refl refl

    pub movi : WellFormedCode (MOVI a v)
    movi = plain (MOVI a v) h (omega arith) (omega arith) q refl refl

    pub cmpi : WellFormedCode (CMPI a v)
    cmpi = plain (CMPI a v) h (omega arith) (omega arith) q refl refl

-- registers a and b, and with them an offset
module _ {a b : ℕ} (h : a < 16) (k : b < 16) where
  pub add : WellFormedCode (ADD a b)
  add = plain (ADD a b) h k (omega arith) (omega arith) refl refl

  pub sub : WellFormedCode (SUB a b)
  sub = plain (SUB a b) h k (omega arith) (omega arith) refl refl

  pub imul : WellFormedCode (IMUL a b)
  imul = plain (IMUL a b) h k (omega arith) (omega arith) refl refl

  pub mov : WellFormedCode (MOV a b)
  mov = plain (MOV a b) h k (omega arith) (omega arith) refl refl

  pub cmp : WellFormedCode (CMP a b)
  cmp = plain (CMP a b) h k (omega arith) (omega arith) refl refl

  module _ {o : ℕ} (f : o < 2 ^ 64) where
    pub addrm : WellFormedCode (ADDRM a b o)
    addrm = plain (ADDRM a b o) h k f (omega arith) refl refl

    pub addmr : WellFormedCode (ADDMR a o b)
    addmr = plain (ADDMR a o b) h k f (omega arith) refl refl

    pub subrm : WellFormedCode (SUBRM a b o)
    subrm = plain (SUBRM a b o) h k f (omega arith) refl refl

    pub submr : WellFormedCode (SUBMR a o b)
    submr = plain (SUBMR a o b) h k f (omega arith) refl refl

    pub imulrm : WellFormedCode (IMULRM a b o)
    imulrm = plain (IMULRM a b o) h k f (omega arith) refl refl

    pub imulmr : WellFormedCode (IMULMR a o b)
    imulmr = plain (IMULMR a o b) h k f (omega arith) refl refl

    pub movs : WellFormedCode (MOVS a b o)
    movs = plain (MOVS a b o) h k f (omega arith) refl refl

    pub movl : WellFormedCode (MOVL a b o)
    movl = plain (MOVL a b o) h k f (omega arith) refl refl

    pub cmprm : WellFormedCode (CMPRM a b o)
    cmprm = plain (CMPRM a b o) h k f (omega arith) refl refl

    pub cmpmr : WellFormedCode (CMPMR a o b)
    cmpmr = plain (CMPMR a o b) h k f (omega arith) refl refl

pub cqo : WellFormedCode CQO
cqo = plain CQO (omega arith) (omega arith) (omega arith) (omega arith) refl refl
