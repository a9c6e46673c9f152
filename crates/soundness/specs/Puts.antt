-- A list of puts, and the values that it makes, for the worked lists that store all of them.
use Rattle.std.specs.Prelude.{ℕ, zero, suc, List, [], ◌∷◌}
use Rattle.heap.specs.Values.{integer, Values, copies}
use Rattle.soundness.specs.Claims.{Item}
use Rattle.soundness.specs.Example.{put_seven}

-- put 7, so many times
unfoldable pub puts : ℕ → List Item
puts zero = []
puts (suc n) = put_seven ∷ puts n

abbrev pub sevens : ℕ → Values
sevens n = copies n (integer 7)
