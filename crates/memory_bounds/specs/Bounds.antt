-- How many records a store and a load of n variables have at most, and how many labels they draw: by n alone, wherever the variables stand; a store's records also by where they stand.
-- From the scope, 'Instruction record', and memory.rs.
use Rattle.std.specs.Prelude.{ℕ, ◌+◌, ◌*◌, ◌-◌, Bool, false, cond, ltb}
use Rattle.trees.specs.Tree.{size}
use Rattle.layout.specs.declared.config.Shape.{Shape}
use Rattle.memory.specs.Objects.{chunks, store_object}

module _ (g : Shape) where
  -- blocks before the last one of an object of n variables
  abbrev pub other_blocks : ℕ → ℕ
  other_blocks n = chunks (g.fields - 1) (n - g.fields)

  -- a block stored: its link, two records for each word of its fields, and the block acquired, whose children are erased
  abbrev stored_last : ℕ
  stored_last = 16 * g.fields + 19

  abbrev stored_other : ℕ
  stored_other = 16 * g.fields + 17

  abbrev pub stored_within : ℕ → ℕ
  stored_within n = stored_last + stored_other * other_blocks n

  -- a block loaded and released, and one whose pointers are shared: its link, its fields, and register 4 borrowed for it
  abbrev released_last : ℕ
  released_last = 4 * g.fields + 5

  abbrev released_other : ℕ
  released_other = 4 * (g.fields - 1) + 5

  abbrev shared_last : ℕ
  shared_last = 8 * g.fields + 3

  abbrev shared_other : ℕ
  shared_other = 8 * (g.fields - 1) + 3

  -- an object is loaded in two ways, of which one is run, and 7 records choose
  abbrev pub loaded_within : ℕ → ℕ
  loaded_within n = released_last + shared_last + (released_other + shared_other) * other_blocks n + 7

-- the labels that a store and a load of n variables draw are no more than these
abbrev pub stored_labels : ℕ → ℕ
stored_labels n = 10 * n + 100

abbrev pub loaded_labels : ℕ → ℕ
loaded_labels n = 2 * n + 42

-- every variable is linked
abbrev pub linked : ℕ → Bool
linked v = false

-- the most records that a store of n variables from v on has: those of linked ones
abbrev pub store_most : Shape → ℕ → ℕ → ℕ
store_most g v n = size (store_object g linked v n)

-- the records that store one word of variable v, of which the first six are in registers
abbrev pub word_records : ℕ → ℕ
word_records v = cond (ltb v 6) 1 2
