-- Words, then a number: what most lines are made of.
use Rattle.std.specs.Prelude.{ℕ, List, ◌++◌}
use Prim.Native.String.{String}
use Rattle.text.specs.Text.{ascii, decimal}

abbrev pub counted : String → ℕ → List ℕ
counted words n = ascii words ++ decimal n
