-- How many records an order on k variables has at most, and how many labels it draws: a store's by where its variables stand, a load's by how many they are.
-- Where the output has room for so many, the order is written in one pass.
use Rattle.std.specs.Prelude.{ℕ, ◌+◌, ◌*◌, ◌-◌}
use Rattle.records.specs.declared.order.Order.{Order}
use Rattle.records.specs.declared.order.Order.TheVariants.{Put, Compute, Copy, Drop, Store, Load, Print}
use Rattle.layout.specs.declared.config.Shape.{Shape}
use Rattle.memory_bounds.specs.Bounds.{loaded_within, stored_labels, loaded_labels, store_most}

-- the most records of an operation of code.rs, which a division has, of erase_block, share_block_n and print_i64
abbrev pub operation_within : ℕ
operation_within = 9

abbrev pub erase_within : ℕ
erase_within = 12

abbrev pub share_within : ℕ
share_within = 5

abbrev pub print_within : ℕ
print_within = 21

module _ (g : Shape) (k : ℕ) where
  abbrev pub most_records : Order → ℕ
  most_records (Put value) = 1
  most_records (Compute operation a b) = operation_within
  most_records (Copy a n) = 4 * n + share_within
  most_records Drop = erase_within
  most_records (Store n tag) = store_most g (k - n) n + 1
  most_records (Load n) = loaded_within g n
  most_records (Print newline a) = print_within

abbrev pub most_labels : Order → ℕ
most_labels (Put value) = 0
most_labels (Compute operation a b) = 0
most_labels (Copy a n) = 1
most_labels Drop = 3
most_labels (Store n tag) = stored_labels n
most_labels (Load n) = loaded_labels n
most_labels (Print newline a) = 0

-- how many variables an order stores, loads or makes
abbrev pub handled : Order → ℕ
handled (Put value) = 0
handled (Compute operation a b) = 0
handled (Copy a n) = n
handled Drop = 0
handled (Store n tag) = n
handled (Load n) = n
handled (Print newline a) = 0
