-- How many records and labels erase_block has, of a register and of a spill.
use Prim.Native.Nat.{◌+◌}
use mathlib.Core.Path.{refl}
use native.Mathlib.Omega.{arith}
use borrow.Author.Tests.{lt-ltb, le-ltb, le-leb}
use Rattle.emit.specs.Answers.{granted}
use Rattle.layout.specs.declared.config.Shape.{Shape}
use Rattle.layout.specs.Config.{operands}
use Rattle.layout.specs.Positions.{operand_ok}
use Rattle.memory.specs.Answered.{erase_answer}
use Rattle.worked_numbers.specs.Worked.{EraseRegisterWrites, EraseSpillWrites}

module _ (g : Shape) where
  pub register : EraseRegisterWrites g 11 3
  unfolding erase_answer operand_ok granted
  register r h k =
      record { answered = rw (le-leb 4 r h, lt-ltb r (operands g) (omega arith), lt-ltb r 16 k) refl; written = rw (lt-ltb r 16 k) refl }

  pub spilled : EraseSpillWrites g 12 3
  unfolding erase_answer operand_ok granted
  spilled p h k =
      record {
        answered =
            rw (le-leb 4 (16 + p) (omega arith), lt-ltb (16 + p) (operands g) (omega arith), lt-ltb 16 (16 + p) (omega arith), le-ltb (16 + p) 16 (omega arith)) refl;
        written = rw (le-ltb (16 + p) 16 (omega arith)) refl;
      }
