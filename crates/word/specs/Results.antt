-- The result of each of the five operations on two words, and where it is defined. From the scope, 'Plain machine of demand 3': wrapped at 2^64; div and rem are
-- signed and truncate toward zero, with a division fault on a zero divisor or −2^63 and −1.
use Rattle.std.specs.Prelude.{ℕ, Bool, true}
use Rattle.records.specs.declared.order.Calculation.{Calculation}
use Rattle.records.specs.declared.order.Calculation.TheVariants.{Add, Sub, Mul, Div, Rem}
use Rattle.word.specs.Words.{sum, difference, product, quotient, remainder, divisible}

abbrev pub result : Calculation → ℕ → ℕ → ℕ
result Add x y = sum x y
result Sub x y = difference x y
result Mul x y = product x y
result Div x y = quotient x y
result Rem x y = remainder x y

abbrev pub result_defined : Calculation → ℕ → ℕ → Bool
result_defined Add x y = true
result_defined Sub x y = true
result_defined Mul x y = true
result_defined Div x y = divisible x y
result_defined Rem x y = divisible x y
