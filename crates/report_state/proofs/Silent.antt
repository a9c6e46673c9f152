-- An order that is no print order writes nothing.
use Prim.Native.Nat.{ℕ}
use mathlib.Core.Path.{◌≡◌, refl}
use mathlib.Core.Bool.{Bool}
use mathlib.Core.List.{[]}
use Rattle.records.specs.declared.order.Order.{Order}
use Rattle.records.specs.declared.order.Order.TheVariants.{Put, Compute, Copy, Drop, Store, Load, Print}
use Rattle.layout.specs.declared.config.Shape.{Shape}
use Rattle.report_state.specs.Prints.{prints_of}

module _ (g : Shape) (reg stk : ℕ → ℕ) where
  pub silent : (order : Order) → ((newline : Bool) (a : ℕ) → order ≡ Print newline a → ⊥) → prints_of g reg stk order ≡ []
  unfolding prints_of
  silent (Put value) other = refl
  silent (Compute operation a b) other = refl
  silent (Copy a n) other = refl
  silent Drop other = refl
  silent (Store n tag) other = refl
  silent (Load n) other = refl
  silent (Print newline a) other = absurd (other newline a refl)
