-- Labels and names, by their numbers. From the scope, 'Instruction record': fresh labels are 1 to 2^31−1; a name is 2^31 plus 0 `asm_main`, 1 `cleanup`, 2 PRINT_I64,
-- 3 PRINTLN_I64, or 16 and up for a caller's; and from 'Causes and numbers': the largest count of a share or a copy.
use Rattle.std.specs.Prelude.{ℕ}

-- the last fresh label
abbrev pub last_label : ℕ
last_label = 2147483647

abbrev pub ASMMAIN : ℕ
ASMMAIN = 2147483648

abbrev pub CLEANUP : ℕ
CLEANUP = 2147483649

abbrev pub PRINTI64 : ℕ
PRINTI64 = 2147483650

abbrev pub PRINTLNI64 : ℕ
PRINTLNI64 = 2147483651

-- 2^31 plus 4 to 15: no label and no name
abbrev pub first_unnamed : ℕ
first_unnamed = 2147483652

abbrev pub last_unnamed : ℕ
last_unnamed = 2147483663

-- a share's count, and a copy's, is at most this
abbrev pub most_count : ℕ
most_count = 2147483647
