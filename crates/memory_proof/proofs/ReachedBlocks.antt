-- What pointers lead to is a block of the heap with a small count, so the code may follow and share it.
use mathlib.Core.List.{List}
use mathlib.Core.Logic.{◌≢◌}
use mathlib.Core.Path.{◌≡◌, ◌∙◌, ap}
use Prim.Native.Nat.{ℕ, ◌*◌, ◌≤◌}
use native.Mathlib.Omega.{arith}
use lib.ListN.{length}
use Rattle.layout.specs.declared.config.Shape.{Shape}
use Rattle.layout.specs.Config.{Supported}
use Rattle.machine_step.specs.Step.{Config}
use Rattle.heap.proofs.BlockLemmas.{block_number_lem}
use Rattle.heap.specs.Blocks.{children}
use Rattle.heap.proofs.ConsistencyLemmas.{reachable_held}
use Rattle.heap.specs.Counting.{occ, refs}
use Rattle.heap.proofs.CountingLemmas.{occ_length, refs_length}
use Rattle.heap.proofs.Invariant.{Consistent}
use Rattle.heap.specs.Reachability.{ReachableFrom}
use Rattle.heap.proofs.WordLemmas.{header_at, fields_at}
use Rattle.heap.specs.Words.{word_at, headers, block_fields}
use Rattle.memory_proof.proofs.Erasing.{Block, most_named}
use Rattle.memory_proof.proofs.Shown.{L, heap_of, cells_pointers}

module _ {G : Shape} {N n : ℕ} {i : ℕ → ℕ} {roots : List ℕ} (shape : Supported G) (s : Config) (g : Consistent (L G) (heap_of G s) i n roots) (fits : n ≤ N) (most : N ≤ 1048576) (few : length roots ≤ 1048576) where
  -- what pointers lead to is a block of the heap, with a small count
  pub reachable_block : (q : ℕ) → ReachableFrom (block_fields G.fields s.state.mem) roots q → Block G N s.state.mem q
  reachable_block q r =
      let y = reachable_held g r in
      let b = block_number_lem (L G) n q (omega (arith, g.invariant.parts q, y.is_live)) in
      let e : refs (children (block_fields G.fields s.state.mem)) q g.live ≤ G.fields * length g.live = refs_length (children (block_fields G.fields s.state.mem)) G.fields q g.live (λ x d. size x d) in
      let h : headers G.fields s.state.mem q ≡ s.state.mem (word_at G.fields b.0 0) = ap (headers G.fields s.state.mem) b.2 ∙ header_at G.fields s.state.mem b.0 in
      record { number = b.0; address = b.2; inside = omega (arith, b.1); small = omega (arith, occ_length q roots, y.count, g.invariant.size, most_named G.fields (length g.live) shape.few) }
    where
      size : (x : ℕ) → occ x g.live ≢ 0 → length (children (block_fields G.fields s.state.mem) x) ≤ G.fields
      size x d = let e = block_number_lem (L G) n x (omega (arith, g.invariant.parts x)) in rw (e.2, fields_at G.fields s.state.mem e.0) (omega (arith, cells_pointers G s.state.mem e.0 0 G.fields))
