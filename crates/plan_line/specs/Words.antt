-- The lines of a text and the words of a line. From docs/PLANNER.md, 'The planner's text'.
use Rattle.std.specs.Prelude.{ℕ, ◌+◌, ◌-◌, Bool, true, false, not, ◌||◌, ◌&&◌, cond, List, [], ◌∷◌, eqb, length, take, drop}
use Rattle.plan_line.specs.declared.words.Sought.{Sought}
use Rattle.plan_line.specs.declared.words.Sought.TheVariants.{Byte, Blank, Letter}

-- a tab, a CR, a space
abbrev pub blank : ℕ → Bool
blank b = eqb b 9 || eqb b 13 || eqb b 32

abbrev pub sought_in : Sought → ℕ → Bool
sought_in (Byte m) b = eqb b m
sought_in Blank b = blank b
sought_in Letter b = not (blank b)

-- the bytes before the first that is marked
unfoldable pub before : (ℕ → Bool) → List ℕ → List ℕ
before marked [] = []
before marked (b ∷ s) = cond (marked b) [] (b ∷ before marked s)

-- its index, from index i on; the length where there is none
unfoldable pub found : (ℕ → Bool) → List ℕ → ℕ → ℕ
found marked s i = i + length (before marked (drop i s))

-- the bytes from index i to j
abbrev pub part : ℕ → ℕ → List ℕ → List ℕ
part i j s = take (j - i) (drop i s)

-- a byte in front of the first part
abbrev pub onto : ℕ → List (List ℕ) → List (List ℕ)
onto b [] = (b ∷ []) ∷ []
onto b (p ∷ ps) = (b ∷ p) ∷ ps

-- the parts between marked bytes: one more than these are
unfoldable pub parts : (ℕ → Bool) → List ℕ → List (List ℕ)
parts marked [] = [] ∷ []
parts marked (b ∷ s) = cond (marked b) ([] ∷ parts marked s) (onto b (parts marked s))

-- lines end with LF
abbrev pub lines_of : List ℕ → List (List ℕ)
lines_of text = parts (sought_in (Byte 10)) text

-- a comment starts with '#'
abbrev pub uncommented : List ℕ → List ℕ
uncommented line = before (sought_in (Byte 35)) line

-- the parts that are not empty
abbrev pub filled : List (List ℕ) → List (List ℕ)
filled [] = []
filled ([] ∷ ps) = filled ps
filled ((b ∷ p) ∷ ps) = (b ∷ p) ∷ filled ps

-- words stand between blanks
unfoldable pub words_in : List ℕ → List (List ℕ)
words_in line = filled (parts (sought_in Blank) line)

-- whether two words are the same
unfoldable pub same_bytes : List ℕ → List ℕ → Bool
same_bytes [] [] = true
same_bytes [] (c ∷ t) = false
same_bytes (b ∷ s) [] = false
same_bytes (b ∷ s) (c ∷ t) = eqb b c && same_bytes s t
