-- How many records and labels an order has at most.
use Prim.Native.Nat.{ℕ, zero, suc, ◌*◌, ◌-◌, ◌≤◌}
use mathlib.Core.Path.{◌≡◌, refl}
use mathlib.Core.Bool.{Bool, true, cond}
use mathlib.Core.List.{List}
use native.Mathlib.Omega.{arith}
use Rattle.records.specs.declared.order.Order.{Order}
use Rattle.records.specs.declared.order.Order.TheVariants.{Put, Compute, Copy, Drop, Store, Load, Print}
use Rattle.records.specs.Contexts.{ext_at}
use Rattle.records.proofs.Conditions.{both_ways}
use Rattle.trees.specs.Tree.{nop, labels, size}
use Rattle.layout.specs.declared.config.Shape.{Shape}
use Rattle.layout.specs.Config.{Supported, positions}
use Rattle.code.proofs.Sizes.{plain_mov, plain_arithmetic, plain_load_immediate}
use Rattle.memory.specs.Blocks.{share_block}
use Rattle.memory.specs.Objects.{fst, snd, ext_in}
use Rattle.memory.proofs.Sizes.{Within, erase_size, share_size, store_object_size, object_size}
use Rattle.print_i64.proofs.Sizes.{print_size}
use Rattle.order_spec.specs.Writes.{copy_variable, copy_to, tree_of, present, asked}
use Rattle.order_check.proofs.Asking.{copy_there, copy_asks, copies_few, store_there, store_fits, load_few}

pub variable_extent : (g : Shape) (ext : Bool) (a v : ℕ) → (labels (copy_variable g ext a v) ≤ 0) × (size (copy_variable g ext a v) ≤ 4)
variable_extent g ext a v =
    let f = plain_mov g (fst v) (fst a) in
    let s = plain_mov g (snd v) (snd a) in
    both_ways (Within 0 4) ext (omega arith) (omega arith)

pub copies_extent : (g : Shape) (ext : Bool) (a v n : ℕ) → (labels (copy_to g ext a v n) ≤ 0) × (size (copy_to g ext a v n) ≤ 4 * n)
copies_extent g ext a v zero = (omega arith, omega arith)
copies_extent g ext a v (suc n) =
    let x = variable_extent g ext a v in
    let z = copies_extent g ext a (suc v) n in
    (omega arith, omega arith)

pub share_extent : (g : Shape) (ext : Bool) (w n : ℕ) → (labels (cond ext nop (share_block g w n)) ≤ 1) × (size (cond ext nop (share_block g w n)) ≤ 5)
share_extent g ext w n =
    let s = share_size g w n in
    both_ways (Within 1 5) ext (omega arith) (omega arith)

pub order_extent : {g : Shape} → Supported g → (c : List ℕ) (k : ℕ) (b : List ℕ) (o : Order) → present c k b o ≡ true → asked c k b o ≤ positions g
    → (labels (tree_of g c k b o) ≤ 3000) × (size (tree_of g c k b o) ≤ 14000)
unfolding tree_of
order_extent {g} f c k b (Put value) p h = let z = plain_load_immediate g (snd k) value in (omega (arith, z.none), omega (arith, z.most))
order_extent {g} f c k b (Compute operation x y) p h =
    let z = plain_arithmetic g operation (snd k) (snd x) (snd y) in (omega (arith, z.none), omega (arith, z.most))
order_extent {g} f c k b (Copy a n) p h =
    let s = share_extent g (ext_at c a) (fst a) n in
    let z = copies_extent g (ext_at c a) a k n in
    let w = copies_few f (ext_at c a) a k n (copy_there c k b a n refl p) (copy_asks c k b a n refl h) in
    (omega (arith, s.0, z.0), omega (arith, s.1, z.1, f.frame))
order_extent {g} f c k b Drop p h =
    let s = erase_size g (fst (k - 1)) in
    both_ways (Within 3000 14000) (ext_at c (k - 1)) (omega arith) (omega arith)
order_extent {g} f c k b (Store n tag) p h =
    let l = store_there c k b n tag refl p in
    let w = store_fits c k b n tag refl f l h in
    let s = store_object_size g (ext_in c 0) f (k - n) n in
    let z = plain_load_immediate g (snd (k - n)) tag in
    (omega (arith, f.frame, w.0, l, s.0, z.none), omega (arith, f.frame, w.0, l, s.1, z.most))
order_extent {g} f c k b (Load n) p h =
    let s = object_size g (ext_in b (k - 1)) f (k - 1) n in let w = load_few c k b n refl g h in (omega (arith, s.0, w, f.frame), omega (arith, s.1, w, f.frame))
order_extent {g} f c k b (Print newline a) p h =
    let s = print_size g newline (snd a) (ext_at c) k in (omega (arith, s.0), omega (arith, s.1))
