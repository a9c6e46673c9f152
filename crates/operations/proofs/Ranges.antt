-- Checked operands are registers or spills of the frame.
use Prim.Native.Nat.{ℕ, ◌<◌}
use mathlib.Core.Path.{◌≡◌, refl}
use mathlib.Core.Bool.{Bool, true, ◌&&◌}
use Rattle.records.proofs.Conditions.{and_left, and_right}
use Rattle.layout.specs.Config.{operands}
use Rattle.layout.specs.declared.config.Shape.{Shape}
use Rattle.layout.specs.Positions.{operand_ok}
use Rattle.layout.proofs.Placing.{operand_range}

module _ (g : Shape) where
  pub one_below : {w : ℕ} → operand_ok g w ≡ true → w < operands g
  one_below {w} k = (operand_range g w refl k).1

  pub two_below : {x y : ℕ} → operand_ok g x && operand_ok g y ≡ true → (x < operands g) × (y < operands g)
  two_below {x} {y} k = (one_below (and_left (operand_ok g x) (operand_ok g y) k), one_below (and_right (operand_ok g x) (operand_ok g y) k))

  pub below_and : {w : ℕ} {b : Bool} → operand_ok g w && b ≡ true → (w < operands g) × (b ≡ true)
  below_and {w} {b} k = (one_below (and_left (operand_ok g w) b k), and_right (operand_ok g w) b k)
