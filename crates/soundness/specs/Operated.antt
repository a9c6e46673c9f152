-- The claim on store, load, share_block_n and erase_block speaks of something: put 7 and store it with tag 5, on four blocks; each of the four is then accepted.
use Rattle.std.specs.Prelude.{List, [], ◌∷◌, ◌≡◌, ℕ}
use Rattle.records.specs.declared.binding.Kind.TheVariants.{Ext}
use Rattle.records.specs.Names.{most_count}
use Rattle.trees.specs.Tree.{Tree}
use Rattle.layout.specs.Config.{base}
use Rattle.layout.specs.Positions.{location}
use Rattle.memory.specs.Answered.{store_tree}
use Rattle.memory.specs.Blocks.{erase_block, share_block}
use Rattle.memory.specs.LoadAnswered.{load_tree}
use Rattle.machine_step.specs.View.{View}
use Rattle.heap.specs.Orders.{HeapState}
use Rattle.heap.specs.Values.{Values, integer, object, nil, cons}
use Rattle.order_spec.specs.Writes.{made}
use Rattle.channel_step.specs.Playing.{Channel}
use Rattle.soundness.specs.Claims.{Item, reached, values, states_before}
use Rattle.soundness.specs.Operations.{RunLeaves, Stored, Loaded, Shared, Erased}
use Rattle.soundness.specs.Example.{put_seven, store_one}

-- newest first
abbrev pub one_stored : List Item
one_stored = store_one ∷ put_seven ∷ []

abbrev pub channel : Channel
channel = reached base 4 one_stored

-- what the run of an operation's bytes leaves on it, from counter 0
abbrev pub WorkedLeaves : (ℕ → ℕ) → Tree → ((past : List HeapState) (vs : Values) → View → Type 0) → Type 0
WorkedLeaves words t Left = RunLeaves base words channel t 0 (Left (states_before base 4 one_stored) (values base 4 one_stored))

pub record WorkedOperations : Type 0 where
  pub plain_values : values base 4 one_stored ≡ cons (object 5 (cons (integer 7) nil)) nil
  pub stored : (words : ℕ → ℕ) → WorkedLeaves words (store_tree base channel.context 1) (λ past vs. Stored base 4 past channel vs 1)
  pub loaded : (words : ℕ → ℕ) → WorkedLeaves words (load_tree base (made Ext 0) []) (λ past vs. Loaded base 4 past channel vs (made Ext 0))
  -- by the most that share_block_n takes
  pub shared : (words : ℕ → ℕ) → WorkedLeaves words (share_block base (location 0) most_count) (λ past vs. Shared base 4 past channel vs 0 most_count)
  pub erased : (words : ℕ → ℕ) → WorkedLeaves words (erase_block base (location 0)) (λ past vs. Erased base 4 past channel vs 0)
