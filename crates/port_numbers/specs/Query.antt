-- What the queries answer: the number and the value that goes with it.
use Rattle.layout.specs.declared.utils.NoTemporary.{NoTemporary}
use Rattle.layout.specs.declared.config.NoOffset.{NoOffset}
use Rattle.std.specs.Prelude.{ℕ, Bool, true, false, List, Result}
use Rattle.layout.specs.declared.utils.TemporaryNumber.{TemporaryNumber}
use Rattle.layout.specs.declared.utils.TemporaryNumber.TheVariants.{Fst, Snd}
use Rattle.layout.specs.Positions.{temporary_cause}
use Rattle.layout.specs.Queries.{offset_cause}
use Rattle.port_numbers.specs.Numbers.{numbers_in}

-- a temporary's number, and its operand
abbrev pub temporary_numbers : Result ℕ NoTemporary → List ℕ
temporary_numbers t = numbers_in (temporary_cause t)

-- an offset's number, and the offset
abbrev pub offset_numbers : Result ℕ NoOffset → List ℕ
offset_numbers offset = numbers_in (offset_cause offset)

abbrev pub half_of : Bool → TemporaryNumber
half_of true = Snd
half_of false = Fst
