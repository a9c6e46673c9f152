-- The names of the 44 instructions, in the sequence of the Rust's enum Code: the name of code 1 first.
use Rattle.std.specs.Prelude.{ℕ, List, [], ◌∷◌, map}
use Rattle.text.specs.Text.{ascii}

unfoldable pub code_names : List (List ℕ)
code_names =
    map ascii
    ("ADD" ∷ "ADDRM" ∷ "ADDMR" ∷ "ADDI" ∷ "ADDIM"
    ∷ "SUB" ∷ "SUBRM" ∷ "SUBMR" ∷ "SUBI"
    ∷ "IMUL" ∷ "IMULRM" ∷ "IMULMR" ∷ "IDIV" ∷ "IDIVM" ∷ "CQO"
    ∷ "JMP" ∷ "JMPL" ∷ "JMPLN" ∷ "LEAL"
    ∷ "MOV" ∷ "MOVS" ∷ "MOVL" ∷ "MOVI" ∷ "MOVIM"
    ∷ "CMP" ∷ "CMPRM" ∷ "CMPMR" ∷ "CMPI" ∷ "CMPIM"
    ∷ "JEL" ∷ "JNEL" ∷ "JLL" ∷ "JLEL" ∷ "JGL" ∷ "JGEL"
    ∷ "PUSH" ∷ "POP" ∷ "CALL" ∷ "RET" ∷ "LAB"
    ∷ "NOEXECSTACK" ∷ "TEXT" ∷ "GLOBAL" ∷ "EXTERN" ∷ [])
