-- The bounds on the records of operations, as each crate's proofs have them, and that a store of linked variables reaches its own.
use Prim.Native.Nat.{ℕ, ◌-◌}
use mathlib.Core.Path.{◌≡◌, ap}
use mathlib.Core.Bool.{Bool}
use mathlib.Core.List.{[]}
use native.Mathlib.Omega.{arith}
use lib.Dec.{ltb}
use Rattle.records.specs.declared.binding.Kind.TheVariants.{Linked}
use Rattle.records.specs.declared.order.Order.TheVariants.{Store}
use Rattle.records.proofs.Conditions.{both_ways}
use Rattle.trees.specs.Tree.{Tree, size}
use Rattle.layout.specs.declared.config.Shape.{Shape}
use Rattle.code.specs.Code.{load_immediate}
use Rattle.operations.proofs.Extent.{nine_at_most}
use Rattle.memory.specs.Objects.{snd, store_object}
use Rattle.memory.proofs.Sizes.{erase_size, share_size}
use Rattle.memory_bounds.proofs.StoreSizes.{store_within}
use Rattle.memory_bounds.proofs.LoadSizes.{load_within}
use Rattle.print_i64.proofs.Sizes.{print_size}
use Rattle.order_spec.specs.Writes.{tree_of}
use Rattle.order_emit.specs.Bounds.{most_records}
use Rattle.order_emit.proofs.Bounded.{order_bounds}
use Rattle.port_rooms_proof.specs.Sizes.{variables}
use Rattle.port_rooms_proof.specs.Claims.{OrdersAtOnce, OperationsFit}
use Rattle.port_rooms_proof.proofs.Growing.{linked_in_lem}
use Rattle.port_rooms_proof.proofs.OrderSizes.{bounds_fit}

-- the tag's record
one : (g : Shape) (w value : ℕ) → size (load_immediate g w value) ≡ 1
one g w value = both_ways (λ (t : Tree). size t ≡ 1) (ltb w 16) (omega arith) (omega arith)

reached : (g : Shape) (k n tag : ℕ) → size (tree_of g (variables Linked k) k [] (Store n tag)) ≡ most_records g k (Store n tag)
unfolding tree_of
reached g k n tag =
    omega (arith, ap (λ (ext : ℕ → Bool). size (store_object g ext (k - n) n)) (linked_in_lem k), one g (snd (k - n)) tag)

pub orders_at_once : OrdersAtOnce
orders_at_once =
    record {
      records_bounded = λ g s context k bindings order. (order_bounds g s context k bindings order).1;
      bound_reached = λ g s k n tag. reached g k n tag;
      bound_within = λ g s context k bindings order. bounds_fit context k bindings g s order;
    }

pub operations_fit : OperationsFit
operations_fit =
    record {
      operation = nine_at_most;
      erased = λ g w. (erase_size g w).1;
      shared = λ g w n. (share_size g w n).1;
      printed = λ g newline w ext n. (print_size g newline w ext n).1;
      stored = λ g s ext v n. store_within g s ext v n;
      loaded = λ g s ext v n. load_within g ext s v n;
    }
