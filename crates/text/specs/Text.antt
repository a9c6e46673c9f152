-- Text as bytes, and numbers in decimal.
use Rattle.std.specs.Prelude.{ℕ, zero, suc, ◌+◌, ◌-◌, ◌/◌, ◌%◌, cond, List, [], ◌∷◌, ◌++◌, ltb}
use Prim.Native.Char.{code}
use Prim.Native.String.{String, [] as no_more, ◌∷◌ as ◌then◌}

-- the bytes of a text whose characters are all ASCII
abbrev pub ascii : String → List ℕ
ascii no_more = []
ascii (c then s) = code c ∷ ascii s

-- what follows a space
abbrev pub spaced : List ℕ → List ℕ
spaced bs = ascii " " ++ bs

-- the byte of a digit from 0 to 9
abbrev pub digit : ℕ → ℕ
digit d = 48 + d

-- a number below 10^k, the most significant digit first, without leading zeros
unfoldable pub digits : ℕ → ℕ → List ℕ
digits zero v = []
digits (suc k) v = cond (ltb v 10) (digit v ∷ []) (digits k (v / 10) ++ (digit (v % 10) ∷ []))

-- a number of 64 bits
abbrev pub decimal : ℕ → List ℕ
decimal v = digits 20 v

-- the integer whose 64-bit two's complement is v
unfoldable pub signed_decimal : ℕ → List ℕ
signed_decimal v = cond (ltb v 0x8000_0000_0000_0000) (decimal v) (ascii "-" ++ decimal (0x1_0000_0000_0000_0000 - v))
