-- What the search for a word answers: where the word stands, and what follows it.
use Rattle.std.specs.Prelude.{ℕ, ◌≤◌, ◌<◌, ◌≡◌, List, [], ◌∷◌, length, drop, None, Some, Option}
use Rattle.plan_line.specs.declared.wrong.Wrong.{Wrong}
use Rattle.plan_line.specs.declared.wrong.Wrong.TheVariants.{MissingWord}
use Rattle.plan_line.specs.Words.{part, words_in}

-- the words ws start with the bytes i to j of the line, and go on after them
pub record WordStarts (line : List ℕ) (ws : List (List ℕ)) (i j : ℕ) : Type 0 where
  pub words : ws ≡ part i j line ∷ words_in (drop j line)
  pub some : i < j
  pub within : j ≤ length line

-- what is found at the front of the words ws
pub data FirstOf (line : List ℕ) (ws : List (List ℕ)) : Option (ℕ × ℕ) → Type 0 where
  word : {i j : ℕ} → WordStarts line ws i j → FirstOf line ws (Some (i, j))
  none : ws ≡ [] → FirstOf line ws None

-- the first word from index i on
abbrev pub NextWord : List ℕ → ℕ → Option (ℕ × ℕ) → Type 0
NextWord line i f = FirstOf line (words_in (drop i line)) f

-- word k, from 0
abbrev pub WordAt : List ℕ → ℕ → Option (ℕ × ℕ) → Type 0
WordAt line k f = FirstOf line (drop k (words_in line)) f

-- the words ws start with the word w
pub record StartWith (w : List ℕ) (ws : List (List ℕ)) : Type 0 where
  pub rest : List (List ℕ)
  pub words : ws ≡ w ∷ rest

-- no word is left, and that is what is wrong
pub record NoneLeft (wrong : Wrong) (ws : List (List ℕ)) : Type 0 where
  pub missing : wrong ≡ MissingWord
  pub words : ws ≡ []
