-- One step of the trees that store and load variables and blocks one after the other.
use Prim.Native.Nat.{ℕ, zero, suc, ◌+◌, ◌-◌, ◌<◌}
use mathlib.Core.Path.{◌≡◌}
use mathlib.Core.Bool.{Bool, true, not, ◌&&◌}
use native.Mathlib.Numerals.{add-one}
use native.Mathlib.Omega.{arith}
use lib.Dec.{ltb}
use Rattle.trees.specs.Tree.{seq}
use Rattle.layout.specs.declared.config.Shape.{Shape}
use Rattle.layout.specs.Config.{HEAP, fst_offset}
use Rattle.memory.specs.Blocks.{acquire_block, store_field}
use Rattle.memory.specs.Objects.{fst, store_value, store_values, store_other, store_others, load_value, load_values, load_block, freed, load_others}

module _ (g : Shape) (ext : ℕ → Bool) where
  pub next_value : (v k free : ℕ) → 0 < k → store_values g ext v k free ≡ seq (store_value g ext (v + (k - 1)) (free - 1)) (store_values g ext v (k - 1) (free - 1))
  next_value v zero free h = absurd (omega arith)
  next_value v (suc k) free h = let e : suc k - 1 ≡ k = omega arith in rw e

  module _ (each : ℕ) (h : each + 1 ≡ g.fields) where
    -- each of an object's blocks but the last holds as many variables as it has fields, less one
    others : g.fields - 1 ≡ each
    others = omega arith

    pub block_of : (v k : ℕ) → store_other g ext v k ≡ seq (store_field g (fst (v + k)) HEAP (fst_offset each)) (seq (store_values g ext v k each) (acquire_block g (fst v)))
    block_of v k = rw (← others)

    pub next_other : (m v n : ℕ) → 0 < m → store_others g ext m v n ≡ seq (store_other g ext (v + (n - each)) (n - (n - each))) (store_others g ext (m - 1) v (n - each))
    next_other zero v n p = absurd (omega arith)
    next_other (suc m) v n p = let e : suc m - 1 ≡ m = omega arith in rw (e, ← others)

    pub next_loaded_other : (shared : Bool) (m v n : ℕ) → load_others g ext shared (m + 1) v n ≡ seq (load_others g ext shared m v (n - each)) (load_block g ext shared true (freed g ext v (n - each)) (v + (n - each)) (n - (n - each)))
    next_loaded_other shared m v n = rw (add-one, ← others)

    pub freed_of : (v n : ℕ) → freed g ext v n ≡ (ltb 0 n && not (ltb (fst (v + (n - each))) 16))
    freed_of v n = rw (← others)

  pub next_loaded : (shared : Bool) (v k free r : ℕ) → 0 < k → load_values g ext shared v k free r ≡ seq (load_value g ext shared (v + (k - 1)) (free - 1) r) (load_values g ext shared v (k - 1) (free - 1) r)
  next_loaded shared v zero free r h = absurd (omega arith)
  next_loaded shared v (suc k) free r h = let e : suc k - 1 ≡ k = omega arith in rw e
