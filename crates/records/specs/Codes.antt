-- What each instruction's record holds: the codes' numbers, and where an operand stands, name by name.
-- From the scope, 'Instruction record': code is the place in enum Code, registers a and b stand in the enum's sequence, an unused field is zero.
use Rattle.std.specs.Prelude.{ℕ, ◌-◌, List, [], ◌∷◌, get_or}
use Rattle.records.specs.declared.code.Code.{Code}
use Rattle.records.specs.declared.code.Code.TheVariants.{ADD, ADDRM, ADDMR, ADDI, ADDIM, SUB, SUBRM, SUBMR, SUBI, IMUL, IMULRM, IMULMR, IDIV, IDIVM, CQO, JMP, JMPL, JMPLN, LEAL, MOV, MOVS, MOVL, MOVI, MOVIM, CMP, CMPRM, CMPMR, CMPI, CMPIM, JEL, JNEL, JLL, JLEL, JGL, JGEL, PUSH, POP, CALL, RET, LAB, NOEXECSTACK, TEXT, GLOBAL, EXTERN}
use Rattle.records.specs.declared.code.Fields.{Fields}

abbrev pub fields : ℕ → ℕ → ℕ → ℕ → ℕ → ℕ → Fields
fields code a b label offset value = record { code = code; a = a; b = b; label = label; offset = offset; value = value }

abbrev pub fields_of : Code → Fields
fields_of (ADD a b) = fields 1 a b 0 0 0
fields_of (ADDRM a b offset) = fields 2 a b 0 offset 0
fields_of (ADDMR a offset b) = fields 3 a b 0 offset 0
fields_of (ADDI a value) = fields 4 a 0 0 0 value
fields_of (ADDIM a offset value) = fields 5 a 0 0 offset value
fields_of (SUB a b) = fields 6 a b 0 0 0
fields_of (SUBRM a b offset) = fields 7 a b 0 offset 0
fields_of (SUBMR a offset b) = fields 8 a b 0 offset 0
fields_of (SUBI a value) = fields 9 a 0 0 0 value
fields_of (IMUL a b) = fields 10 a b 0 0 0
fields_of (IMULRM a b offset) = fields 11 a b 0 offset 0
fields_of (IMULMR a offset b) = fields 12 a b 0 offset 0
fields_of (IDIV a) = fields 13 a 0 0 0 0
fields_of (IDIVM a offset) = fields 14 a 0 0 offset 0
fields_of CQO = fields 15 0 0 0 0 0
fields_of (JMP a) = fields 16 a 0 0 0 0
fields_of (JMPL label) = fields 17 0 0 label 0 0
fields_of (JMPLN label) = fields 18 0 0 label 0 0
fields_of (LEAL a label) = fields 19 a 0 label 0 0
fields_of (MOV a b) = fields 20 a b 0 0 0
fields_of (MOVS a b offset) = fields 21 a b 0 offset 0
fields_of (MOVL a b offset) = fields 22 a b 0 offset 0
fields_of (MOVI a value) = fields 23 a 0 0 0 value
fields_of (MOVIM a offset value) = fields 24 a 0 0 offset value
fields_of (CMP a b) = fields 25 a b 0 0 0
fields_of (CMPRM a b offset) = fields 26 a b 0 offset 0
fields_of (CMPMR a offset b) = fields 27 a b 0 offset 0
fields_of (CMPI a value) = fields 28 a 0 0 0 value
fields_of (CMPIM a offset value) = fields 29 a 0 0 offset value
fields_of (JEL label) = fields 30 0 0 label 0 0
fields_of (JNEL label) = fields 31 0 0 label 0 0
fields_of (JLL label) = fields 32 0 0 label 0 0
fields_of (JLEL label) = fields 33 0 0 label 0 0
fields_of (JGL label) = fields 34 0 0 label 0 0
fields_of (JGEL label) = fields 35 0 0 label 0 0
fields_of (PUSH a) = fields 36 a 0 0 0 0
fields_of (POP a) = fields 37 a 0 0 0 0
fields_of (CALL label) = fields 38 0 0 label 0 0
fields_of RET = fields 39 0 0 0 0 0
fields_of (LAB label) = fields 40 0 0 label 0 0
fields_of NOEXECSTACK = fields 41 0 0 0 0 0
fields_of TEXT = fields 42 0 0 0 0 0
fields_of (GLOBAL label) = fields 43 0 0 label 0 0
fields_of (EXTERN label) = fields 44 0 0 label 0 0

-- the instruction of each code, from its record's fields
unfoldable pub readers : List (Fields → Code)
readers =
    (λ (f : Fields). ADD f.a f.b)
    ∷ (λ (f : Fields). ADDRM f.a f.b f.offset)
    ∷ (λ (f : Fields). ADDMR f.a f.offset f.b)
    ∷ (λ (f : Fields). ADDI f.a f.value)
    ∷ (λ (f : Fields). ADDIM f.a f.offset f.value)
    ∷ (λ (f : Fields). SUB f.a f.b)
    ∷ (λ (f : Fields). SUBRM f.a f.b f.offset)
    ∷ (λ (f : Fields). SUBMR f.a f.offset f.b)
    ∷ (λ (f : Fields). SUBI f.a f.value)
    ∷ (λ (f : Fields). IMUL f.a f.b)
    ∷ (λ (f : Fields). IMULRM f.a f.b f.offset)
    ∷ (λ (f : Fields). IMULMR f.a f.offset f.b)
    ∷ (λ (f : Fields). IDIV f.a)
    ∷ (λ (f : Fields). IDIVM f.a f.offset)
    ∷ (λ (f : Fields). CQO)
    ∷ (λ (f : Fields). JMP f.a)
    ∷ (λ (f : Fields). JMPL f.label)
    ∷ (λ (f : Fields). JMPLN f.label)
    ∷ (λ (f : Fields). LEAL f.a f.label)
    ∷ (λ (f : Fields). MOV f.a f.b)
    ∷ (λ (f : Fields). MOVS f.a f.b f.offset)
    ∷ (λ (f : Fields). MOVL f.a f.b f.offset)
    ∷ (λ (f : Fields). MOVI f.a f.value)
    ∷ (λ (f : Fields). MOVIM f.a f.offset f.value)
    ∷ (λ (f : Fields). CMP f.a f.b)
    ∷ (λ (f : Fields). CMPRM f.a f.b f.offset)
    ∷ (λ (f : Fields). CMPMR f.a f.offset f.b)
    ∷ (λ (f : Fields). CMPI f.a f.value)
    ∷ (λ (f : Fields). CMPIM f.a f.offset f.value)
    ∷ (λ (f : Fields). JEL f.label)
    ∷ (λ (f : Fields). JNEL f.label)
    ∷ (λ (f : Fields). JLL f.label)
    ∷ (λ (f : Fields). JLEL f.label)
    ∷ (λ (f : Fields). JGL f.label)
    ∷ (λ (f : Fields). JGEL f.label)
    ∷ (λ (f : Fields). PUSH f.a)
    ∷ (λ (f : Fields). POP f.a)
    ∷ (λ (f : Fields). CALL f.label)
    ∷ (λ (f : Fields). RET)
    ∷ (λ (f : Fields). LAB f.label)
    ∷ (λ (f : Fields). NOEXECSTACK)
    ∷ (λ (f : Fields). TEXT)
    ∷ (λ (f : Fields). GLOBAL f.label)
    ∷ (λ (f : Fields). EXTERN f.label)
    ∷ []

-- the instruction that a record's fields stand for, where the code is 1 to 44
unfoldable pub code_of : Fields → Code
code_of f = get_or readers (f.code - 1) (λ (g : Fields). EXTERN g.label) f
