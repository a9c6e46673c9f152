-- How many records an order has at most, and how many variables it leaves.
use Prim.Native.Nat.{ℕ, ◌+◌, ◌*◌, ◌-◌, ◌≤◌, ◌<◌}
use mathlib.Core.Path.{◌≡◌, refl, ap}
use mathlib.Core.Bool.{true}
use mathlib.Core.List.{List}
use native.Mathlib.Nat.{mul-le-mul_left, lt_of_mul-lt-mul_left}
use native.Mathlib.Omega.{arith}
use native.Mathlib.Decide.{ℕ_discrete}
use borrow.Author.Tests.{ne_eqb}
use Rattle.records.specs.declared.order.Order.{Order}
use Rattle.records.specs.declared.order.Order.TheVariants.{Put, Compute, Copy, Drop, Store, Load, Print}
use Rattle.records.specs.Contexts.{ext_at}
use Rattle.records.proofs.Conditions.{both_ways}
use Rattle.trees.specs.Tree.{Tree, size}
use Rattle.layout.specs.declared.config.Shape.{Shape}
use Rattle.layout.specs.Config.{Supported, positions, most_variables}
use Rattle.code.proofs.Sizes.{plain_arithmetic, plain_load_immediate}
use Rattle.memory.specs.Objects.{fst, snd, ext_in, store_object, chunks}
use Rattle.memory.proofs.Sizes.{erase_size, chunks_fill}
use Rattle.memory_bounds.specs.Bounds.{linked}
use Rattle.memory_bounds.proofs.StoreSizes.{store_within}
use Rattle.memory_bounds.proofs.LoadSizes.{load_within}
use Rattle.print_i64.proofs.Sizes.{print_size}
use Rattle.order_spec.specs.Writes.{tree_of, present, asked}
use Rattle.order_check.specs.After.{count_after}
use Rattle.order_check.proofs.Asking.{put_fits, compute_fits, copy_there, copy_asks, copies_fit, copies_few, store_there, store_fits, load_few}
use Rattle.order_emit.specs.Bounds.{most_records}
use Rattle.order_emit.proofs.Extent.{copies_extent, share_extent}
use Rattle.order_emit.proofs.Bounded.{order_bounds}
use Rattle.port_rooms_proof.specs.Sizes.{records_within, room_for_records}
use Rattle.port_rooms_proof.proofs.Growing.{store_most_lem, all_size, all_least}

pub order_within : (g : Shape) → Supported g → (c : List ℕ) (k : ℕ) (b : List ℕ) (o : Order) → size (tree_of g c k b o) ≤ records_within g o
unfolding tree_of
order_within g s c k b (Put value) = (plain_load_immediate g (snd k) value).most
order_within g s c k b (Compute operation x y) = (plain_arithmetic g operation (snd k) (snd x) (snd y)).most
order_within g s c k b (Copy a n) = omega (arith, share_extent g (ext_at c a) (fst a) n, copies_extent g (ext_at c a) a k n)
order_within g s c k b Drop =
    both_ways (λ (t : Tree). size t ≤ 12) (ext_at c (k - 1)) (omega arith) (erase_size g (fst (k - 1))).1
order_within g s c k b (Store n tag) = omega (arith, store_within g s (ext_in c 0) (k - n) n, (plain_load_immediate g (snd (k - n)) tag).most)
order_within g s c k b (Load n) = load_within g (ext_in b (k - 1)) s (k - 1) n
order_within g s c k b (Print newline a) = (print_size g newline (snd a) (ext_at c) k).1

-- so many records have the blocks acquired, m of them before the last, at least
blocks_stored : (f c m : ℕ) → f ≡ c + 1 → (12 * f + 18) * (m + 1) ≡ 12 * (c * m) + 30 * m + (12 * f + 18)
blocks_stored f c m e = omega (arith, ap (λ (x : ℕ). x * m) e)

-- a store of m blocks before the last has more records than n copies, or than a load of no more blocks
copies_within : (f c m n : ℕ) → f ≡ c + 1 → n - f ≤ c * m → 4 * n + 5 ≤ (12 * f + 18) * (m + 1)
copies_within f c m n e h = omega (arith, blocks_stored f c m e)

loaded_within_lem : (f c m k : ℕ) → f ≡ c + 1 → k ≤ m → 12 * f + 15 + (12 * c + 8) * k ≤ (12 * f + 18) * (m + 1)
loaded_within_lem f c m k e h =
    let q : (12 * c + 8) * k ≡ 12 * (c * k) + 8 * k = omega arith in
    let r : c * k ≤ c * m = mul-le-mul_left c h in
    omega (arith, blocks_stored f c m e)

-- the records of both ways of a load added up
load_sum : (f c m : ℕ) → f ≡ c + 1 → 4 * f + 5 + (8 * f + 3) + (4 * c + 5 + (8 * c + 3)) * m + 7 ≡ 12 * f + 15 + (12 * c + 8) * m
load_sum f c m e =
    let a : (12 * c + 8) * m ≡ 12 * (c * m) + 8 * m = omega arith in
    let b : (4 * c + 5 + (8 * c + 3)) * m ≡ 12 * (c * m) + 8 * m = omega arith in
    omega arith

chunks_later : (c n m : ℕ) → 1 ≤ c → n ≤ m → chunks c n ≤ chunks c m
chunks_later c n m h l =
    let z : c * chunks c n < c * (chunks c m + 1) = omega (arith, (chunks_fill c n h).1, (chunks_fill c m h).0) in
    omega (arith, lt_of_mul-lt-mul_left c z)

-- an order whose places and positions are there
module _ (c : List ℕ) (k : ℕ) (b : List ℕ) (g : Shape) (s : Supported g) where
  abbrev most : ℕ
  most = most_variables g

  abbrev blocks : ℕ → ℕ
  blocks n = chunks (g.fields - 1) (n - g.fields)

  some_records : 20 ≤ size (store_object g linked 0 most)
  some_records = omega (arith, loaded_within_lem g.fields (g.fields - 1) (blocks most) 0 (omega (arith, s.some)) (omega arith), all_least g s, s.some)

  filled : most - g.fields ≤ (g.fields - 1) * blocks most
  filled = (chunks_fill (g.fields - 1) (most - g.fields) (omega (arith, s.some))).0

  -- a store's bound by its variables' places, the others' by their number
  bounds_below : (o : Order) → present c k b o ≡ true → asked c k b o ≤ positions g → most_records g k o ≤ size (store_object g linked 0 most) + 1
  bounds_below (Put value) p h = omega arith
  bounds_below (Compute operation x y) p h = omega (arith, some_records)
  bounds_below (Copy a n) p h =
      let l : n ≤ most = copies_few s (ext_at c a) a k n (copy_there c k b a n refl p) (copy_asks c k b a n refl h) in
      omega (arith, copies_within g.fields (g.fields - 1) (blocks most) n (omega (arith, s.some)) (omega (arith, filled)), all_least g s)
  bounds_below Drop p h = omega (arith, some_records)
  bounds_below (Store n tag) p h =
      let l = store_there c k b n tag refl p in
      let f = store_fits c k b n tag refl s l h in
      omega (arith, store_most_lem g s linked (k - n) n most (omega arith) (omega (arith, s.aside)))
  bounds_below (Load n) p h =
      let l : n ≤ most = load_few c k b n refl g h in
      let z = loaded_within_lem g.fields (g.fields - 1) (blocks most) (blocks n) (omega (arith, s.some)) (chunks_later (g.fields - 1) (n - g.fields) (most - g.fields) (omega (arith, s.some)) (omega arith)) in
      omega (arith, z, load_sum g.fields (g.fields - 1) (blocks n) (omega (arith, s.some)), all_least g s)
  bounds_below (Print newline a) p h = omega (arith, some_records)

  -- where the output has the room that the header recommends, it has room for an order's bound
  pub bounds_fit : (o : Order) → present c k b o ≡ true → asked c k b o ≤ positions g → 24 * most_records g k o ≤ room_for_records g
  bounds_fit o p h = omega (arith, bounds_below o p h, all_size g)

  pub order_most : (o : Order) → present c k b o ≡ true → asked c k b o ≤ positions g → 24 * size (tree_of g c k b o) ≤ room_for_records g
  order_most o p h = omega (arith, (order_bounds g s c k b o).1, bounds_fit o p h)

  loaded_few : (n : ℕ) → asked c k b (Load n) ≤ positions g → (n ≡ 0 → ⊥) → k - 1 + n ≤ most_variables g
  unfolding asked
  loaded_few n h z = let l : 2 * (k - 1 + n) ≤ positions g = rw (ne_eqb n 0 z) at h in omega arith

  pub few_left : (o : Order) → k ≤ most_variables g → present c k b o ≡ true → asked c k b o ≤ positions g → count_after k o ≤ most_variables g
  few_left (Put value) l p h = omega (arith, put_fits c k b value refl s h)
  few_left (Compute operation x y) l p h = omega (arith, compute_fits c k b operation x y refl s h)
  few_left (Copy a n) l p h = by (ℕ_discrete n 0)
    where
      by : Dec (n ≡ 0) → k + n ≤ most_variables g
      by (yes z) = omega arith
      by (no z) = omega (arith, copies_fit s (ext_at c a) a k n (copy_there c k b a n refl p) (copy_asks c k b a n refl h) z)
  few_left Drop l p h = omega arith
  few_left (Store n tag) l p h = omega (arith, store_fits c k b n tag refl s (store_there c k b n tag refl p) h)
  few_left (Load n) l p h = by (ℕ_discrete n 0)
    where
      by : Dec (n ≡ 0) → k - 1 + n ≤ most_variables g
      by (yes z) = omega arith
      by (no z) = loaded_few n h z
  few_left (Print newline a) l p h = l
