-- An order has no more records and labels than its bounds say.
use Prim.Native.Nat.{ℕ, ◌-◌, ◌≤◌}
use mathlib.Core.Path.{◌≡◌, refl}
use mathlib.Core.Bool.{true}
use mathlib.Core.List.{List}
use native.Mathlib.Omega.{arith}
use Rattle.records.specs.declared.order.Order.{Order}
use Rattle.records.specs.declared.order.Order.TheVariants.{Put, Compute, Copy, Drop, Store, Load, Print}
use Rattle.records.specs.Contexts.{ext_at}
use Rattle.records.proofs.Conditions.{both_ways}
use Rattle.trees.specs.Tree.{labels, size}
use Rattle.layout.specs.declared.config.Shape.{Shape}
use Rattle.layout.specs.Config.{Supported, positions}
use Rattle.code.proofs.Sizes.{plain_arithmetic, plain_load_immediate}
use Rattle.memory.specs.Objects.{fst, snd, ext_in}
use Rattle.memory.proofs.Sizes.{Within, erase_size, store_object_size, object_size}
use Rattle.memory_bounds.proofs.StoreSizes.{store_linked}
use Rattle.memory_bounds.proofs.LoadSizes.{load_within}
use Rattle.print_i64.proofs.Sizes.{print_size}
use Rattle.order_spec.specs.Writes.{tree_of, present, asked}
use Rattle.order_check.proofs.Asking.{copy_there, copy_asks, copies_few, store_there, load_few}
use Rattle.order_emit.specs.Bounds.{most_records, most_labels, handled}
use Rattle.order_emit.proofs.Extent.{copies_extent, share_extent}

pub order_bounds : (g : Shape) → Supported g → (c : List ℕ) (k : ℕ) (b : List ℕ) (o : Order)
    → (labels (tree_of g c k b o) ≤ most_labels o) × (size (tree_of g c k b o) ≤ most_records g k o)
unfolding tree_of
order_bounds g f c k b (Put value) = let z = plain_load_immediate g (snd k) value in (omega (arith, z.none), z.most)
order_bounds g f c k b (Compute operation x y) = let z = plain_arithmetic g operation (snd k) (snd x) (snd y) in (omega (arith, z.none), z.most)
order_bounds g f c k b (Copy a n) =
    let s = share_extent g (ext_at c a) (fst a) n in
    let z = copies_extent g (ext_at c a) a k n in
    (omega (arith, s.0, z.0), omega (arith, s.1, z.1))
order_bounds g f c k b Drop =
    let s = erase_size g (fst (k - 1)) in
    both_ways (Within 3 12) (ext_at c (k - 1)) (omega arith, omega arith) (omega arith, s.1)
order_bounds g f c k b (Store n tag) =
    let s = store_object_size g (ext_in c 0) f (k - n) n in
    let y = store_linked g (ext_in c 0) (k - n) n in
    let z = plain_load_immediate g (snd (k - n)) tag in
    (omega (arith, s.0, z.none), omega (arith, y, z.most))
order_bounds g f c k b (Load n) = ((object_size g (ext_in b (k - 1)) f (k - 1) n).0, load_within g (ext_in b (k - 1)) f (k - 1) n)
order_bounds g f c k b (Print newline a) = let s = print_size g newline (snd a) (ext_at c) k in (omega (arith, s.0), s.1)

-- an order whose positions are there handles few variables
pub few_handled : {g : Shape} → Supported g → (c : List ℕ) (k : ℕ) (b : List ℕ) (o : Order) → k ≤ 4096 → present c k b o ≡ true → asked c k b o ≤ positions g → handled o ≤ 4096
few_handled f c k b (Put value) l p h = omega arith
few_handled f c k b (Compute operation x y) l p h = omega arith
few_handled f c k b (Copy a n) l p h =
    omega (arith, copies_few f (ext_at c a) a k n (copy_there c k b a n refl p) (copy_asks c k b a n refl h), f.frame)
few_handled f c k b Drop l p h = omega arith
few_handled f c k b (Store n tag) l p h = omega (arith, store_there c k b n tag refl p)
few_handled {g} f c k b (Load n) l p h = omega (arith, load_few c k b n refl g h, f.frame)
few_handled f c k b (Print newline a) l p h = omega arith
