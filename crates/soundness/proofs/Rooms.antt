-- The frontier after an order whose run was done is within the heap, if FREE is.
use mathlib.Core.Path.{◌≡◌, refl}
use mathlib.Core.Logic.{◌≢◌}
use mathlib.Core.List.{List}
use Prim.Native.Nat.{ℕ, suc, ◌≤◌}
use native.Mathlib.Decide.{ℕ_discrete}
use native.Mathlib.Omega.{arith}
use Rattle.layout.specs.declared.config.Shape.{Shape}
use Rattle.heap.specs.Blocks.{Cell, Memory}
use Rattle.heap.specs.Values.{Values}
use Rattle.heap.specs.Orders.{HeapOrder, plain, Legal, Performs}
use Rattle.heap.proofs.Invariant.{Represents}
use Rattle.heap.proofs.GrowthLemmas.{Bounded}
use Rattle.heap.proofs.OrderLemmas.{stored_by, represents_same, represents_order}
use Rattle.memory_proof.proofs.Acquiring.{Within}
use Rattle.memory_proof.proofs.Shown.{L}
use Rattle.memory_proof.proofs.StoringObject.{frontier_within}
use Rattle.memory.specs.Objects.{object_sizes}

module _ (G : Shape) where
  pub represents_within : {M M' : Memory} {m N : ℕ} {values : Values} {o : HeapOrder} {variables variables' : List Cell} → m ≤ N → Performs (object_sizes G) (L G) M o variables M' variables' → Legal o values
      → Represents (object_sizes G) (L G) M m variables values → (stored_by o ≢ 0 → Within G N M'.lazy_head) → Bounded (object_sizes G) (L G) (suc N) M' variables' (plain o values)
  represents_within {M} {M'} {m} {N} {values} {o} {variables} {variables'} le p l s free = by (ℕ_discrete (stored_by o) 0)
    where
      by : Dec (stored_by o ≡ 0) → Bounded (object_sizes G) (L G) (suc N) M' variables' (plain o values)
      by (yes z) = record { frontier = m; below = omega arith; represents = represents_same refl p l z s }
      by (no z) =
          let a = represents_order refl p l s in
          record { frontier = a.frontier; below = omega (arith, frontier_within G a.represents.consistent a.only_when_full le (free z)); represents = a.represents }
