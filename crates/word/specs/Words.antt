-- Arithmetic of 64-bit words. From the scope, 'Machine': sums, differences and products wrap at 2^64, IDIV truncates toward zero.
-- A word of 2^63 and above stands for that number less 2^64.
use Rattle.std.specs.Prelude.{ℕ, ◌+◌, ◌-◌, ◌*◌, ◌/◌, ◌%◌, ◌^◌, Bool, true, false, not, ◌&&◌, ◌==◌, nat_le, nat_lt}

unfoldable pub sum : ℕ → ℕ → ℕ
sum x y = (x + y) % 2 ^ 64

unfoldable pub difference : ℕ → ℕ → ℕ
difference x y = (x + (2 ^ 64 - y)) % 2 ^ 64

unfoldable pub product : ℕ → ℕ → ℕ
product x y = (x * y) % 2 ^ 64

abbrev pub negative : ℕ → Bool
negative x = nat_le (2 ^ 63) x

abbrev pub choose : Bool → ℕ → ℕ → ℕ
choose true x y = x
choose false x y = y

-- CQO: every bit is the sign
unfoldable pub signs : ℕ → ℕ
signs x = choose (negative x) (2 ^ 64 - 1) 0

unfoldable pub magnitude : ℕ → ℕ
magnitude x = choose (negative x) (2 ^ 64 - x) x

unfoldable pub negated : ℕ → ℕ
negated x = (2 ^ 64 - x) % 2 ^ 64

abbrev pub signed : Bool → ℕ → ℕ
signed minus x = choose minus (negated x) x

abbrev pub differ : Bool → Bool → Bool
differ true b = not b
differ false b = b

-- the quotient of the magnitudes, negative where the signs differ
unfoldable pub quotient : ℕ → ℕ → ℕ
quotient x d = signed (differ (negative x) (negative d)) (magnitude x / magnitude d)

-- with the dividend's sign
unfoldable pub remainder : ℕ → ℕ → ℕ
remainder x d = signed (negative x) (magnitude x % magnitude d)

-- no division by zero, nor of −2^63 by −1
abbrev pub divisible : ℕ → ℕ → Bool
divisible x d = not (d == 0) && not (x == 2 ^ 63 && d == 2 ^ 64 - 1)

-- IDIV does not fault: the high word is what CQO makes of the low one, which the divisor divides
unfoldable pub divides : ℕ → ℕ → ℕ → Bool
divides high low d = high == signs low && divisible low d

-- signed order: −2^63 first, so the order of the words with 2^63 added
unfoldable pub less : ℕ → ℕ → Bool
less x y = nat_lt (sum x (2 ^ 63)) (sum y (2 ^ 63))
