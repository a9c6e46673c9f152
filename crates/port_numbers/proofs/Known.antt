-- An edition, or a frame, that is known or not.
use Rattle.std.specs.Prelude.{Option, Some, None}
use Rattle.std.specs.Option.{is_some}
use mathlib.Core.Path.{◌≡◌, refl, sym}
use mathlib.Core.Bool.{true, false}
use Rattle.records.proofs.Conditions.{never}

module _ {A : Type 0} where
  pub unknown : (o : Option A) → is_some o ≡ false → o ≡ None
  unknown (Some g) e = never (sym e)
  unknown None e = refl

  pub known : (o : Option A) → is_some o ≡ true → (g : A) × (o ≡ Some g)
  known (Some g) e = (g, refl)
  known None e = never e
