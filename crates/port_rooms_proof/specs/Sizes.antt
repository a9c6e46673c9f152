-- How many records an order has at most, by the number of variables that it stores, loads or makes, and the sizes of buffers that include/axcut.h
-- recommends for each frame. From the scope, 'Binding record' and 'Instruction record', and memory.rs.
use Rattle.std.specs.Prelude.{ℕ, ◌+◌, ◌*◌, List, [], replicate}
use Rattle.records.specs.declared.binding.Kind.{Kind}
use Rattle.records.specs.declared.binding.Kind.TheVariants.{Linked}
use Rattle.records.specs.declared.order.Order.{Order}
use Rattle.records.specs.declared.order.Order.TheVariants.{Put, Compute, Copy, Drop, Store, Load, Print}
use Rattle.records.specs.Contexts.{binding_bytes}
use Rattle.records.specs.ReadBack.{joined}
use Rattle.trees.specs.Tree.{Tree, size}
use Rattle.layout.specs.declared.config.Shape.{Shape}
use Rattle.layout.specs.Config.{most_variables}
use Rattle.memory_bounds.specs.Bounds.{stored_within, loaded_within}
use Rattle.order_spec.specs.Writes.{tree_of}
use Rattle.order_emit.specs.Bounds.{operation_within, erase_within, share_within, print_within}

module _ (g : Shape) where
  -- the records of an order, wherever its variables stand
  abbrev pub records_within : Order → ℕ
  records_within (Put value) = 1
  records_within (Compute operation a b) = operation_within
  records_within (Copy a n) = 4 * n + share_within
  records_within Drop = erase_within
  records_within (Store n tag) = stored_within g n + 1
  records_within (Load n) = loaded_within g n
  records_within (Print newline a) = print_within

-- the bytes of a context of n variables
abbrev pub variables : Kind → ℕ → List ℕ
variables kind n = joined binding_bytes (replicate n (record { kind = kind; id = 0 }))

-- all variables that have positions, all of them linked, stored
abbrev pub store_of_all : Shape → Tree
store_of_all g = tree_of g (variables Linked (most_variables g)) (most_variables g) [] (Store (most_variables g) 0)

-- in bytes, for the records of an order and for the context after it
abbrev pub room_for_records : Shape → ℕ
room_for_records g = 24 * size (store_of_all g)

abbrev pub room_for_context : Shape → ℕ
room_for_context g = 8 * most_variables g

-- AXCUT_ROOM_FOR_TEXT, in bytes
abbrev pub room_for_text : ℕ
room_for_text = 162706

-- AXCUT_MOST_RECORDS records
abbrev pub room_for_routine : ℕ
room_for_routine = 24 * 65536
