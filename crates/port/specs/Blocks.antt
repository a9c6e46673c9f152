-- What the exported count of blocks answers: the number, and its five words.
use Rattle.layout.specs.declared.config.Shape.{Shape}
use Rattle.std.specs.Prelude.{ℕ, ◌/◌, ◌≡◌, List, [], ◌∷◌, Option}
use Rattle.records.specs.Causes.{ACCEPTED, EDITION}
use Rattle.layout.specs.Config.{in_choice, block_words}
use Rattle.heap_chains.specs.declared.Blocks.{Blocks}
use Rattle.heap_chains.specs.declared.Fit.{Fit}
use Rattle.heap_chains.specs.Blocks.{blocks_counted, fit_in}

-- on HEAP's list, lazily freed, held, never used; and the most that were reachable at once
abbrev pub block_numbers : Blocks → Fit → List ℕ
block_numbers b f = b.linear ∷ b.lazy ∷ b.held ∷ b.untouched ∷ f.peak ∷ []

-- the number and the five words before and after, on a heap of so many words, by HEAP and FREE; without an edition 23, and the five words stay
pub record TellsBlocks (edition : Option Shape) (size : ℕ) (words : ℕ → ℕ) (linear_head lazy_head number : ℕ) (counts counts' : List ℕ) : Type 0 where
  pub answer : number ≡ in_choice edition (λ g. ACCEPTED) EDITION
  pub told :
      counts'
      ≡ in_choice edition
      (λ g. block_numbers (blocks_counted g.fields (size / block_words g) words linear_head lazy_head) (fit_in g.fields (size / block_words g) words lazy_head))
      counts
