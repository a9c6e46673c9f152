-- The operand of each position. From the scope, 'Binding record': variable i has positions 2i (Fst) and 2i+1 (Snd);
-- positions 0..11 are registers 4..15, 12 and up are spills 1 and up, and past the last spill there is none.
use Rattle.layout.specs.declared.utils.NoTemporary.{NoTemporary}
use Rattle.std.specs.Prelude.{ℕ, ◌+◌, ◌<◌, ◌≡◌, Bool, ◌&&◌, ◌||◌, cond, List, [], ◌∷◌, leb, ltb, get_or, Err, Ok, Result}
use Rattle.records.specs.Causes.{ACCEPTED, OPERAND, MISSING, POSITION}
use Rattle.records.specs.Contexts.{flaw_cause}
use Rattle.layout.specs.declared.config.Shape.{Shape}
use Rattle.layout.specs.declared.utils.NoTemporary.TheVariants.{Context, Frame, Missing, OutOfTemporaries}
use Rattle.layout.specs.Config.{larger, operands, positions}

-- the operand of position p
unfoldable pub location : ℕ → ℕ
location p = cond (ltb p 12) (p + 4) (p + 5)

-- the positions of the largest frame
abbrev pub entries : ℕ
entries = positions larger

-- a table that gives each of them its operand
abbrev pub Table : List ℕ → Type 0
Table t = (p : ℕ) → p < entries → get_or t p 0 ≡ location p

-- what a caller may give as an operand: registers 4..15, spills from 1
unfoldable pub operand_ok : Shape → ℕ → Bool
operand_ok g w = leb 4 w && ltb w (operands g) && (ltb w 16 || ltb 16 w)

-- the answer for a position
unfoldable pub position_answer : Shape → ℕ → Result ℕ NoTemporary
position_answer g p = cond (ltb p (positions g)) (Ok (location p)) (Err OutOfTemporaries)

-- the scope's number for each answer: 0, with the operand, where there is one
abbrev pub temporary_cause : Result ℕ NoTemporary → List ℕ
temporary_cause (Ok w) = ACCEPTED ∷ w ∷ []
temporary_cause (Err (Context flaw)) = flaw_cause flaw
temporary_cause (Err Frame) = OPERAND ∷ []
temporary_cause (Err Missing) = MISSING ∷ []
temporary_cause (Err OutOfTemporaries) = POSITION ∷ []
