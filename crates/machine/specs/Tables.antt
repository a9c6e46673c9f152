-- The code's table: three digits for each code say its operation and the forms of its two operands. The meaning of a step does not rest on this: that it
-- is `step` at each of the 44 codes is proved, and the contracts of the public functions cite `step` alone.
use Rattle.std.specs.Prelude.{ℕ, cond, List, [], ◌∷◌, ltb, eqb}
use Rattle.records.specs.declared.code.Fields.{Fields}
use Rattle.word.specs.Words.{signs}
use Rattle.machine_step.specs.View.{put_reg}
use Rattle.machine_step.specs.Step.{Config, Outcome, next, jump, fault, changed, dropped, calculate, move, compare, divide, branch, push, pop, call, return}
use Rattle.machine_step.specs.Forms.{operand_of, result_of, holds_of}

-- a conditional jump's condition stands as its target's form
abbrev pub tabled : List ℕ
tabled =
    0x001 ∷ 0x003 ∷ 0x021 ∷ 0x004 ∷ 0x024 ∷ 0x101 ∷ 0x103 ∷ 0x121 ∷ 0x104 ∷ 0x201 ∷ 0x203 ∷ 0x221 ∷ 0x500 ∷ 0x502 ∷ 0x600 ∷ 0xE00 ∷ 0x700 ∷ 0x700 ∷ 0xE00 ∷ 0x301 ∷ 0x330 ∷ 0x303 ∷ 0x304 ∷ 0x324 ∷ 0x401 ∷ 0x403 ∷ 0x421 ∷ 0x404 ∷ 0x424 ∷ 0x800 ∷ 0x810 ∷ 0x820 ∷ 0x830 ∷ 0x840 ∷ 0x850 ∷ 0x900 ∷ 0xA00 ∷ 0xB00 ∷ 0xC00 ∷ 0xD00 ∷ 0xD00 ∷ 0xD00 ∷ 0xD00 ∷ 0xD00 ∷ []

-- the operation n, where t and u are the forms of its operands
unfoldable pub performed : (ℕ → ℕ) → ℕ → ℕ → ℕ → Fields → Config → Outcome
performed words n t u f c =
    cond (ltb n 3) (calculate (result_of n) (operand_of t f) (operand_of u f) c)
    (cond (eqb n 3) (move (operand_of t f) (operand_of u f) c)
    (cond (eqb n 4) (compare (operand_of t f) (operand_of u f) c)
    (cond (eqb n 5) (divide (operand_of u f) c)
    (cond (eqb n 6) (next (changed c (put_reg c.state 5 (signs (c.state.reg 4)))))
    (cond (eqb n 7) (jump f.label (dropped c))
    (cond (eqb n 8) (branch (holds_of t) f.label c)
    (cond (eqb n 9) (push f.a c)
    (cond (eqb n 10) (pop f.a c)
    (cond (eqb n 11) (call words f.label c)
    (cond (eqb n 12) (return c)
    (cond (eqb n 13) (next (dropped c)) (fault c))))))))))))
