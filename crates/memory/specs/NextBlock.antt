-- The records of `next_block` around those that erase the children, where erasing the children draws n labels, from the label counter c, as the emitter writes them.
use Rattle.std.specs.Prelude.{ℕ, ◌+◌, List, [], ◌∷◌}
use Rattle.records.specs.declared.code.Code.{Code}
use Rattle.records.specs.declared.code.Code.TheVariants.{ADDI, MOV, MOVL, MOVIM, CMPI, JEL, JMPL, LAB}
use Rattle.layout.specs.Config.{HEAP, FREE}

abbrev pub next_begin : ℕ → ℕ → ℕ → List Code
next_begin n r c =
    MOVL HEAP HEAP 0 ∷ CMPI HEAP 0 ∷ JEL (c + (n + 3)) ∷ MOVIM r 0 0 ∷ JMPL (c + (n + 4)) ∷ LAB (c + (n + 3))
    ∷ MOV HEAP FREE ∷ MOVL FREE FREE 0 ∷ CMPI FREE 0 ∷ JEL (c + (n + 1)) ∷ MOVIM HEAP 0 0 ∷ []

abbrev pub next_end : ℕ → ℕ → ℕ → List Code
next_end n bytes c = JMPL (c + (n + 2)) ∷ LAB (c + (n + 1)) ∷ MOV FREE HEAP ∷ ADDI FREE bytes ∷ LAB (c + (n + 2)) ∷ LAB (c + (n + 4)) ∷ []
