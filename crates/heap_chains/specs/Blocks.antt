-- The blocks of the lent heap, counted by their first words, and the heap to fit for the peak that they show. From the scope, 'Blocks and objects'; a block has as many fields as its edition says.
-- What does not end within as many steps as there are blocks is cut off there; in a sound heap everything ends before.
use Rattle.std.specs.Prelude.{ℕ, zero, suc, ◌+◌, ◌*◌, ◌-◌, ◌/◌, cond, List, [], ◌∷◌, eqb, None, Some, Option}
use Rattle.records.specs.Causes.{ACCEPTED, EDITION}
use Rattle.layout.specs.Config.{block_words, in_edition}
use Rattle.heap.specs.Words.{stride, block_number, headers}
use Rattle.heap_chains.specs.declared.Blocks.{Blocks}
use Rattle.heap_chains.specs.declared.Fit.{Fit}

-- HEAP's list: how many blocks it has, from first word to first word, until that is 0
unfoldable pub list_length : (ℕ → ℕ) → ℕ → ℕ → ℕ
list_length header zero b = 0
list_length header (suc left) b = cond {A = ℕ} (eqb b 0) 0 (suc (list_length header left (header b)))

-- FREE's chain: how many blocks it has before the first whose first word is 0, the frontier, and that block
unfoldable pub chain_length : (ℕ → ℕ) → ℕ → ℕ → ℕ
chain_length header zero b = 0
chain_length header (suc left) b = cond {A = ℕ} (eqb (header b) 0) 0 (suc (chain_length header left (header b)))

unfoldable pub chain_end : (ℕ → ℕ) → ℕ → ℕ → ℕ
chain_end header zero b = b
chain_end header (suc left) b = cond {A = ℕ} (eqb (header b) 0) b (chain_end header left (header b))

-- by the numbers of the blocks on HEAP's list, on FREE's chain, below the frontier and in all: the rest below the frontier is held
abbrev pub divided : ℕ → ℕ → ℕ → ℕ → Blocks
divided linear lazy frontier all = record { linear = linear; lazy = lazy; held = frontier - linear - lazy; untouched = all - frontier }

-- the frontier's block, by the words of so many blocks and the word in FREE
abbrev pub frontier_in : ℕ → ℕ → (ℕ → ℕ) → ℕ → ℕ
frontier_in field_count blocks words lazy_head = block_number field_count (chain_end (headers field_count words) blocks lazy_head)

-- of so many blocks, from a heap's words and the words in HEAP and FREE
unfoldable pub blocks_counted : ℕ → ℕ → (ℕ → ℕ) → ℕ → ℕ → Blocks
blocks_counted field_count blocks words linear_head lazy_head =
    divided
    (list_length (headers field_count words) blocks linear_head)
    (chain_length (headers field_count words) blocks lazy_head)
    (frontier_in field_count blocks words lazy_head)
    blocks

-- what to fit where at most `peak` blocks are reachable at once: two blocks more, of as many bytes as their words have
abbrev pub fit_for : ℕ → ℕ → Fit
fit_for field_count peak = record { peak = peak; blocks = 2 + peak; bytes = 8 * stride field_count * (2 + peak) }

-- the peak so far is one less than the frontier
unfoldable pub fit_in : ℕ → ℕ → (ℕ → ℕ) → ℕ → Fit
fit_in field_count blocks words lazy_head = fit_for field_count (frontier_in field_count blocks words lazy_head - 1)

-- in an edition, on a heap of so many words
abbrev pub counted_by : ℕ → ℕ → (ℕ → ℕ) → ℕ → ℕ → Option Blocks
counted_by edition size words linear_head lazy_head =
    in_edition edition (λ g. Some (blocks_counted g.fields (size / block_words g) words linear_head lazy_head)) None

abbrev pub fitted_by : ℕ → ℕ → (ℕ → ℕ) → ℕ → Option Fit
fitted_by edition size words lazy_head = in_edition edition (λ g. Some (fit_in g.fields (size / block_words g) words lazy_head)) None

-- the number for each answer: 0, with what was counted, where there is such an edition
abbrev pub counted_cause : Option Blocks → List ℕ
counted_cause (Some b) = ACCEPTED ∷ b.linear ∷ b.lazy ∷ b.held ∷ b.untouched ∷ []
counted_cause None = EDITION ∷ []

abbrev pub fitted_cause : Option Fit → List ℕ
fitted_cause (Some f) = ACCEPTED ∷ f.peak ∷ f.blocks ∷ f.bytes ∷ []
fitted_cause None = EDITION ∷ []
