-- The tree of an order, by what the order is.
use Prim.Native.Nat.{ℕ, ◌-◌}
use mathlib.Core.Path.{◌≡◌, subst}
use mathlib.Core.Bool.{Bool, cond}
use mathlib.Core.List.{List}
use Rattle.records.specs.declared.order.Calculation.{Calculation}
use Rattle.records.specs.declared.order.Order.{Order}
use Rattle.records.specs.declared.order.Order.TheVariants.{Put, Compute, Copy, Drop, Store, Load, Print}
use Rattle.records.specs.Contexts.{ext_at}
use Rattle.trees.specs.Tree.{Tree, nop, seq}
use Rattle.emit.specs.declared.cursor.Cursor.{Cursor}
use Rattle.emit.specs.Emitted.{Emits}
use Rattle.layout.specs.declared.config.Shape.{Shape}
use Rattle.code.specs.Code.{load_immediate, arithmetic}
use Rattle.memory.specs.Blocks.{erase_block, share_block}
use Rattle.memory.specs.Objects.{fst, snd, ext_in, store_object, load_object}
use Rattle.print_i64.specs.Print.{print_i64}
use Rattle.order_spec.specs.Writes.{copy_to, tree_of}

-- the same records under another name
pub as_tree : {o o' : List ℕ} {p q : Cursor} {t u : Tree} → t ≡ u → Emits o p o' q t → Emits o p o' q u
as_tree {o} {o'} {p} {q} e d = subst (λ (x : Tree). Emits o p o' q x) e d

module _ (g : Shape) (c : List ℕ) (k : ℕ) (b : List ℕ) {o : Order} where
  pub put_tree : (value : ℕ) → o ≡ Put value → load_immediate g (snd k) value ≡ tree_of g c k b o
  unfolding tree_of
  put_tree value e = rw e

  pub compute_tree : (operation : Calculation) (x y : ℕ) → o ≡ Compute operation x y → arithmetic g operation (snd k) (snd x) (snd y) ≡ tree_of g c k b o
  unfolding tree_of
  compute_tree operation x y e = rw e

  pub copy_tree : (a n : ℕ) → o ≡ Copy a n → seq (cond (ext_at c a) nop (share_block g (fst a) n)) (copy_to g (ext_at c a) a k n) ≡ tree_of g c k b o
  unfolding tree_of
  copy_tree a n e = rw e

  pub drop_tree : o ≡ Drop → cond (ext_at c (k - 1)) nop (erase_block g (fst (k - 1))) ≡ tree_of g c k b o
  unfolding tree_of
  drop_tree e = rw e

  pub store_tree_lem : (n tag : ℕ) → o ≡ Store n tag → seq (store_object g (ext_in c 0) (k - n) n) (load_immediate g (snd (k - n)) tag) ≡ tree_of g c k b o
  unfolding tree_of
  store_tree_lem n tag e = rw e

  pub load_tree : (n : ℕ) → o ≡ Load n → load_object g (ext_in b (k - 1)) (k - 1) n ≡ tree_of g c k b o
  unfolding tree_of
  load_tree n e = rw e

  pub print_tree : (newline : Bool) (a : ℕ) → o ≡ Print newline a → print_i64 g newline (snd a) (ext_at c) k ≡ tree_of g c k b o
  unfolding tree_of
  print_tree newline a e = rw e
