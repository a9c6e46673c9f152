-- The tree of every well-formed order is well formed; and that of an order which asks for no position past the last has at most 65,536 records.
use Prim.Native.Nat.{ℕ, zero, suc, ◌+◌, ◌*◌, ◌-◌, ◌^◌, ◌≤◌, ◌<◌}
use mathlib.Core.Path.{◌≡◌, refl}
use mathlib.Core.Bool.{Bool, true, false, cond}
use mathlib.Core.List.{List}
use native.Mathlib.Omega.{arith}
use lib.Dec.{eqb}
use borrow.Author.Tests.{eqb-true, leb-true}
use Rattle.records.specs.declared.order.Order.{Order}
use Rattle.records.specs.declared.order.Order.TheVariants.{Put, Compute, Copy, Drop, Store, Load, Print}
use Rattle.records.specs.ReadBack.{WellFormedOrder}
use Rattle.records.specs.Contexts.{ext_at}
use Rattle.records.proofs.Conditions.{both_ways}
use Rattle.trees.specs.Tree.{nop, size}
use Rattle.layout.specs.declared.config.Shape.{Shape}
use Rattle.layout.specs.Config.{Supported, positions}
use Rattle.code.proofs.Sizes.{plain_arithmetic, plain_load_immediate, plain_mov}
use Rattle.memory.specs.Blocks.{share_block}
use Rattle.memory.specs.Objects.{fst, snd, ext_in}
use Rattle.memory.proofs.Sizes.{erase_size, share_size, store_object_size, object_size}
use Rattle.print_i64.proofs.Sizes.{print_size}
use Rattle.order_spec.specs.Writes.{copy_variable, copy_to, tree_of, present, asked}
use Rattle.order_formed_proof.proofs.Formed.{Formed, none, ◌then◌}
use Rattle.order_formed_proof.proofs.Choices.{either}
use Rattle.order_formed_proof.proofs.Operations.{formed_arithmetic, formed_immediate, formed_moved}
use Rattle.order_formed_proof.proofs.Blocks.{formed_erase, formed_share}
use Rattle.order_formed_proof.proofs.Objects.{formed_store, formed_load}
use Rattle.order_formed_proof.proofs.Printing.{formed_print}

module _ (G : Shape) (sup : Supported G) where
  copy_variable_lem : (ext : Bool) (a v : ℕ) → Formed (copy_variable G ext a v)
  copy_variable_lem ext a v = either ext (formed_moved G sup (snd v) (snd a)) (formed_moved G sup (fst v) (fst a) then formed_moved G sup (snd v) (snd a))

  copy_to_lem : (ext : Bool) (a v n : ℕ) → Formed (copy_to G ext a v n)
  copy_to_lem ext a v zero = none
  copy_to_lem ext a v (suc n) = copy_variable_lem ext a v then copy_to_lem ext a (suc v) n

  module _ (context : List ℕ) (k : ℕ) (bindings : List ℕ) where
    pub order_formed : (o : Order) → WellFormedOrder o → Formed (tree_of G context k bindings o)
    unfolding tree_of
    order_formed (Put value) w = formed_immediate G sup (snd k) w.value_fits
    order_formed (Compute operation a b) w = formed_arithmetic G sup operation (snd k) (snd a) (snd b)
    order_formed (Copy a n) w =
        let h : n < 2 ^ 32 = w.n_fits in
        let q : n < 2 ^ 64 = omega arith in
        either (ext_at context a) none (formed_share G sup (fst a) q) then copy_to_lem (ext_at context a) a k n
    order_formed Drop w = either (ext_at context (k - 1)) none (formed_erase G sup (fst (k - 1)))
    order_formed (Store n tag) w = formed_store G sup (ext_in context 0) (k - n) n then formed_immediate G sup (snd (k - n)) w.value_fits
    order_formed (Load n) w = formed_load G sup (ext_in bindings (k - 1)) (k - 1) n
    order_formed (Print newline a) w = formed_print G sup newline (snd a) (ext_at context) k

  variable_size : (ext : Bool) (a v : ℕ) → size (copy_variable G ext a v) ≤ 4
  variable_size ext a v =
      let p = (plain_mov G (fst v) (fst a)).most in
      let q = (plain_mov G (snd v) (snd a)).most in
      both_ways (λ t. size t ≤ 4) ext (omega arith) (omega arith)

  copies_size : (ext : Bool) (a v n : ℕ) → size (copy_to G ext a v n) ≤ 4 * n
  copies_size ext a v zero = omega arith
  copies_size ext a v (suc n) = omega (arith, variable_size ext a v, copies_size ext a (suc v) n)

  -- a number of variables whose positions exist, or none
  count_most : (n none-asked m : ℕ) → cond (eqb n 0) none-asked (2 * (m + n)) ≤ positions G → 2 * n ≤ positions G
  count_most n x m = by (eqb n 0) refl
    where
      by : (b : Bool) → eqb n 0 ≡ b → cond b x (2 * (m + n)) ≤ positions G → 2 * n ≤ positions G
      by true e h = omega (arith, eqb-true n 0 e)
      by false e h = omega arith

  stored_most : (n k : ℕ) → cond (eqb n 0) (2 * k + 2) (2 * k) ≤ positions G → 2 * k ≤ positions G
  stored_most n k = by (eqb n 0)
    where
      by : (b : Bool) → cond b (2 * k + 2) (2 * k) ≤ positions G → 2 * k ≤ positions G
      by true h = omega arith
      by false h = omega arith

  module _ (context : List ℕ) (k : ℕ) (bindings : List ℕ) where
    pub order_size : (o : Order) → present context k bindings o ≡ true → asked context k bindings o ≤ positions G → size (tree_of G context k bindings o) ≤ 65536
    unfolding tree_of present asked
    order_size (Put value) p h = omega (arith, (plain_load_immediate G (snd k) value).most)
    order_size (Compute operation a b) p h = omega (arith, (plain_arithmetic G operation (snd k) (snd a) (snd b)).most)
    order_size (Copy a n) p h =
        let s = (share_size G (fst a) n).1 in
        let c = copies_size (ext_at context a) a k n in
        let m = count_most n (cond (ext_at context a) 0 (2 * a + 1)) k h in
        omega (arith, both_ways (λ t. size t ≤ 5) (ext_at context a) {x = nop} {y = share_block G (fst a) n} (omega arith) s, sup.frame)
    order_size Drop p h = both_ways (λ t. size t ≤ 65536) (ext_at context (k - 1)) (omega arith) (omega (arith, (erase_size G (fst (k - 1))).1))
    order_size (Store n tag) p h =
        let l = leb-true n k p in
        let m = stored_most n k h in
        let z = (store_object_size G (ext_in context 0) sup (k - n) n).1 in
        omega (arith, (plain_load_immediate G (snd (k - n)) tag).most, sup.frame)
    order_size (Load n) p h = omega (arith, (object_size G (ext_in bindings (k - 1)) sup (k - 1) n).1, count_most n 0 (k - 1) h, sup.frame)
    order_size (Print newline a) p h = omega (arith, (print_size G newline (snd a) (ext_at context) k).1)
