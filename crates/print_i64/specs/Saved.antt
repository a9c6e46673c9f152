-- Registers saved and restored as lists of records, register by register of a set.
use Rattle.std.specs.Prelude.{ℕ, zero, suc, ◌+◌, Bool, cond, List, [], ◌∷◌, ◌++◌, leb, ltb}
use Rattle.records.specs.declared.code.Code.{Code}
use Rattle.records.specs.declared.code.Code.TheVariants.{MOV, PUSH, POP}
use Rattle.print_i64.specs.Registers.{bit}

-- register r to the free register f, or back
abbrev pub near : Bool → ℕ → ℕ → List Code
near back f r = cond back (MOV r f ∷ []) (MOV f r ∷ [])

-- register r pushed; going back, it is left for the pops
abbrev pub far : Bool → ℕ → List Code
far back r = cond back [] (PUSH r ∷ [])

-- the first u of a list of registers to the free ones from f on, the others pushed
unfoldable pub move_all : Bool → ℕ → ℕ → List ℕ → List Code
move_all back f u [] = []
move_all back f zero (r ∷ rs) = far back r ++ move_all back f zero rs
move_all back f (suc u) (r ∷ rs) = near back f r ++ move_all back (f + 1) u rs

-- register r alone, where n members of the set m are below it
abbrev pub move_one : Bool → ℕ → ℕ → ℕ → ℕ → ℕ → List Code
move_one back f u n r m = cond (bit r m) (cond (ltb n u) (near back (f + n) r) (far back r)) []

-- the pop of register r, where n members of the set m are below it
abbrev pub pop_one : ℕ → ℕ → ℕ → ℕ → List Code
pop_one u n r m = cond (bit r m) (cond (leb u n) (POP r ∷ []) []) []
