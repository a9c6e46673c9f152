-- Which registers a print call may change, as a list and as a set, and where they are kept meanwhile.
-- From the scope, 'Operations': print_i64 saves registers 4..11 of the first four variables, an Ext's Snd alone, in free registers 12..15, then by pushes; and
-- code.rs, caller_save_registers_info and save_caller_save_registers.
use Rattle.std.specs.Prelude.{ℕ, zero, suc, ◌+◌, ◌*◌, ◌-◌, ◌/◌, ◌%◌, ◌^◌, min, max, ◌≡◌, Bool, cond, List, [], ◌∷◌, ◌++◌, eqb}

-- the registers of variable v, below 4: both of a linked one, an integer's Snd alone
abbrev pub registers_of : Bool → ℕ → List ℕ
registers_of ext v = cond ext ((5 + 2 * v) ∷ []) ((4 + 2 * v) ∷ (5 + 2 * v) ∷ [])

-- those of the first k variables, in rising order
abbrev pub registers_to : (ℕ → Bool) → ℕ → List ℕ
registers_to ext zero = []
registers_to ext (suc k) = registers_to ext k ++ registers_of (ext k) k

-- those of the first four of n variables: the rest are not changed by a call
abbrev pub registers_to_save : (ℕ → Bool) → ℕ → List ℕ
registers_to_save ext n = registers_to ext (min n 4)

-- registers as a set: bit r for register r
abbrev pub set_of : List ℕ → ℕ
set_of [] = 0
set_of (r ∷ rs) = 2 ^ r + set_of rs

-- the bits of one variable's registers, the Fst's lowest
abbrev pub two_bits : Bool → ℕ
two_bits ext = cond ext 2 3

-- whether register r is in the set m
abbrev pub bit : ℕ → ℕ → Bool
bit r m = eqb (m / 2 ^ r % 2) 1

-- the registers of the set m below r, in rising order
unfoldable pub members : ℕ → ℕ → List ℕ
members zero m = []
members (suc r) m = members r m ++ cond (bit r m) (r ∷ []) []

-- a set of registers 4 to 11 alone, where the first four variables stand
abbrev pub CallerSaved : ℕ → Type 0
CallerSaved m = (members 4 m ≡ []) × (members 12 m ≡ members 16 m)

-- the first register past those of n variables, from 12 on
abbrev pub first_backup : ℕ → ℕ
first_backup n = max (2 * n + 4) 12

-- how many of so many registers to save go to free ones
abbrev pub backups_used : ℕ → ℕ → ℕ
backups_used n count = min count (16 - first_backup n)
