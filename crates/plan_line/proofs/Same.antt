-- Two words compared byte by byte, as `==` of slices compares them.
use Prim.Native.Nat.{ℕ}
use mathlib.Core.Path.{◌≡◌, refl, ap}
use mathlib.Core.Bool.{Bool, ◌&&◌}
use mathlib.Core.List.{List, [], ◌∷◌}
use lib.Dec.{eqb}
use Rattle.std.specs.Str.{bytes_eq}
use Rattle.plan_line.specs.Words.{same_bytes}

pub same_is_equal : (w n : List ℕ) → same_bytes w n ≡ bytes_eq w n
unfolding same_bytes
same_is_equal [] [] = refl
same_is_equal [] (c ∷ n) = refl
same_is_equal (b ∷ w) [] = refl
same_is_equal (b ∷ w) (c ∷ n) = ap (λ (x : Bool). eqb b c && x) (same_is_equal w n)
