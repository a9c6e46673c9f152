-- Demand 3 and the peak bound by the numbers that a user gives: in each edition, 1 of three-field blocks and 2 of seven-field blocks, and in each frame, 256 or 512
-- spills. From the scope, 'Job 7', 'Job 8' and 'Job 11'. What is claimed is over the shape, by one proof; here stands which shapes there are.
use Rattle.std.specs.Prelude.{ℕ, ◌≡◌, ◌≢◌, Err, Ok}
use Rattle.layout.specs.declared.config.Shape.{Shape}
use Rattle.layout.specs.declared.config.Unshaped.TheVariants.{NoFrame, NoEdition}
use Rattle.layout.specs.Config.{base, larger, second, second_larger, shape_of}
use Rattle.soundness.specs.Claims.{StaysSound, StaysSoundOnAcquired}
use Rattle.soundness.specs.Peak.{FrontierWithin, FrontierIs}

pub record EveryShapeStaysSound : Type 0 where
  -- demand 3, on two blocks more than the peak and on two more than are acquired
  pub stay_sound : (edition frame : ℕ) (g : Shape) → shape_of edition frame ≡ Ok g → StaysSound g × StaysSoundOnAcquired g
  -- the frontier within one more than the peak, and at it
  pub at_peak : (edition frame : ℕ) (g : Shape) → shape_of edition frame ≡ Ok g → FrontierWithin g × FrontierIs g
  -- the four shapes
  pub first_256 : shape_of 1 256 ≡ Ok base
  pub first_512 : shape_of 1 512 ≡ Ok larger
  pub second_256 : shape_of 2 256 ≡ Ok second
  pub second_512 : shape_of 2 512 ≡ Ok second_larger
  -- and no other
  pub no_edition : (edition frame : ℕ) → edition ≢ 1 → edition ≢ 2 → shape_of edition frame ≡ Err NoEdition
  pub no_frame : (frame : ℕ) → frame ≢ 256 → frame ≢ 512 → (shape_of 1 frame ≡ Err NoFrame) × (shape_of 2 frame ≡ Err NoFrame)
