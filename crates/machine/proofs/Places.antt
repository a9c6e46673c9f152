-- The six words of the stack below the one that STACK enters at.
use Prim.Native.Nat.{ℕ, ◌≤◌}
use mathlib.Core.Path.{◌≡◌}
use native.Mathlib.Omega.{arith}
use borrow.Author.Tests.{lt-ltb}
use Rattle.machine_step.specs.declared.memory.Place.TheVariants.{Stack}
use Rattle.machine_step.specs.Memory.{place_of}

module _ (depth size : ℕ) (h : 7 ≤ depth) where
  pub place_1 : place_of depth size 1099511627760 ≡ Stack 1
  unfolding place_of
  place_1 = rw (lt-ltb 1 depth (omega arith))

  pub place_2 : place_of depth size 1099511627752 ≡ Stack 2
  unfolding place_of
  place_2 = rw (lt-ltb 2 depth (omega arith))

  pub place_3 : place_of depth size 1099511627744 ≡ Stack 3
  unfolding place_of
  place_3 = rw (lt-ltb 3 depth (omega arith))

  pub place_4 : place_of depth size 1099511627736 ≡ Stack 4
  unfolding place_of
  place_4 = rw (lt-ltb 4 depth (omega arith))

  pub place_5 : place_of depth size 1099511627728 ≡ Stack 5
  unfolding place_of
  place_5 = rw (lt-ltb 5 depth (omega arith))

  pub place_6 : place_of depth size 1099511627720 ≡ Stack 6
  unfolding place_of
  place_6 = rw (lt-ltb 6 depth (omega arith))
