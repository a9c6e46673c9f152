-- Where a frame's words stand, and the variables that they hold. From the scope, 'Machine': STACK enters at 2^40−8, and setup pushes six registers and
-- takes the spills, so that spill p is word p + 7 from the stack's end, in every frame; and from 'Plain machine of demand 3': Ext holds its integer in Snd, linked its tag in
-- Snd and its list by Fst.
use Rattle.std.specs.Prelude.{ℕ, zero, suc, ◌+◌, ◌-◌, ◌*◌, Bool, List, [], ◌∷◌, ltb}
use Rattle.word.specs.Words.{choose}
use Rattle.heap.specs.Blocks.{Cell, cell}
use Rattle.layout.specs.Positions.{location}

-- the stack's word, from its end, that the spill with operand l is
abbrev pub stack_word : ℕ → ℕ
stack_word l = l - 9

-- the word at operand l, among registers and the stack's words
unfoldable pub held_in : (ℕ → ℕ) → (ℕ → ℕ) → ℕ → ℕ
held_in registers stack l = choose (ltb l 16) (registers l) (stack (stack_word l))

-- the variables of a context as pairs of words: variable v has its Fst at position 2v and its Snd at 2v+1. `ext v` says that it is an integer, whose Fst is not looked at
module _ (ext : ℕ → Bool) where
  abbrev pub variable_in : (ℕ → ℕ) → (ℕ → ℕ) → ℕ → Cell
  variable_in registers stack v = cell (choose (ext v) 0 (held_in registers stack (location (2 * v)))) (held_in registers stack (location (2 * v + 1)))

  -- k of them from v on
  abbrev pub variables_in : (ℕ → ℕ) → (ℕ → ℕ) → ℕ → ℕ → List Cell
  variables_in registers stack v zero = []
  variables_in registers stack v (suc k) = variable_in registers stack v ∷ variables_in registers stack (suc v) k
