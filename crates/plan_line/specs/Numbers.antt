-- The number of a word: digits in decimal, with any zeros in front of them. From docs/PLANNER.md, 'The planner's text'.
use Rattle.plan_line.specs.declared.wrong.Wrong.{Wrong}
use Rattle.std.specs.Prelude.{ℕ, ◌+◌, ◌*◌, ◌-◌, ◌%◌, Bool, true, ◌&&◌, cond, List, [], ◌∷◌, ltb, leb, eqb, Err, Ok, Result}
use Rattle.plan_line.specs.declared.wrong.Wrong.TheVariants.{NotNumber, OutOfRange}

-- '0' to '9'
abbrev pub is_digit : ℕ → Bool
is_digit b = leb 48 b && ltb b 58

unfoldable pub all_digits : List ℕ → Bool
all_digits [] = true
all_digits (b ∷ s) = is_digit b && all_digits s

-- the value of digits that follow those of value v
unfoldable pub digits_value : ℕ → List ℕ → ℕ
digits_value v [] = v
digits_value v (b ∷ s) = digits_value (10 * v + (b - 48)) s

unfoldable pub within : ℕ → ℕ → Result ℕ Wrong
within limit v = cond (leb v limit) (Ok v) (Err OutOfRange)

-- at least one digit, and a value up to the limit
unfoldable pub natural_of : ℕ → List ℕ → Result ℕ Wrong
natural_of limit [] = Err NotNumber
natural_of limit (b ∷ s) = cond (all_digits (b ∷ s)) (within limit (digits_value 0 (b ∷ s))) (Err NotNumber)

-- a place or a count: 32 bits
abbrev pub place_in : List ℕ → Result ℕ Wrong
place_in w = natural_of 0xFFFF_FFFF w

-- the 64-bit two's complement
abbrev pub negated_number : Result ℕ Wrong → Result ℕ Wrong
negated_number (Ok v) = Ok ((0x1_0000_0000_0000_0000 - v) % 0x1_0000_0000_0000_0000)
negated_number (Err wrong) = Err wrong

-- a value or a tag: 64 bits, signed, '-' in front of a negative one
unfoldable pub integer_in : List ℕ → Result ℕ Wrong
integer_in [] = Err NotNumber
integer_in (b ∷ s) = cond (eqb b 45) (negated_number (natural_of 0x8000_0000_0000_0000 s)) (natural_of 0x7FFF_FFFF_FFFF_FFFF (b ∷ s))
