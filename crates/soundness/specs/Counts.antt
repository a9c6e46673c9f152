-- The blocks that `heap_chains::count_blocks` counts on the words of a sound channel are those of its heap, and the heap that `heap_chains::to_fit` tells is for its peak.
use Rattle.std.specs.Prelude.{ℕ, ◌-◌, ◌/◌, ◌≡◌, List, length}
use Rattle.layout.specs.declared.config.Shape.{Shape}
use Rattle.layout.specs.Config.{Supported, block_words, HEAP, FREE}
use Rattle.machine_step.specs.View.{View}
use Rattle.heap_chains.specs.declared.Blocks.{Blocks}
use Rattle.heap_chains.specs.declared.Fit.{Fit}
use Rattle.heap_chains.specs.Blocks.{blocks_counted, fit_for, fit_in}
use Rattle.soundness.specs.Claims.{Item, reached, SoundChannel}
use Rattle.soundness.specs.Peak.{PeakOf, Unfaulted}

module _ (g : Shape) where
  -- what is counted on registers and heap
  abbrev pub counted_in : View → Blocks
  counted_in v = blocks_counted g.fields (v.size / block_words g) v.mem (v.reg HEAP) (v.reg FREE)

  -- what is told to fit by registers and heap
  abbrev pub fit_on : View → Fit
  fit_on v = fit_in g.fields (v.size / block_words g) v.mem (v.reg FREE)

-- the lists of the sound heap have these lengths, and the blocks from the frontier up were never used
unfoldable pub CountsAreTrue : Type 0
CountsAreTrue = (g : Shape) (blocks : ℕ) (its : List Item) (s : SoundChannel g blocks its) → counted_in g (reached g blocks its).view
    ≡ record { linear = length s.heap.sound.linear; lazy = length s.heap.sound.lazy; held = length s.heap.sound.held; untouched = blocks - s.heap.frontier }

-- after a list whose runs met no fault: for the most blocks that its variables led to at once
unfoldable pub FitIsForPeak : Type 0
FitIsForPeak = (g : Shape) → Supported g → (blocks : ℕ) (its : List Item) → Unfaulted g blocks its → (peak : ℕ) × PeakOf g blocks its peak × (fit_on g (reached g blocks its).view ≡ fit_for g.fields peak)
