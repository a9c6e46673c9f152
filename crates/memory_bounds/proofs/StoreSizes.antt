-- How many records a store has at most: by the number of its variables, and beside the store of linked ones.
use Prim.Native.Nat.{ℕ, zero, suc, ◌+◌, ◌-◌, ◌≤◌}
use mathlib.Core.Path.{◌≡◌, refl}
use mathlib.Core.Bool.{Bool, true, false, cond}
use native.Mathlib.Omega.{arith}
use lib.Dec.{ltb, eqb}
use borrow.Author.Tests.{eq-eqb}
use Rattle.records.proofs.Conditions.{both_ways}
use Rattle.trees.specs.Tree.{Tree, size}
use Rattle.layout.specs.declared.config.Shape.{Shape}
use Rattle.layout.specs.Config.{Supported, HEAP, fst_offset}
use Rattle.code.specs.Code.{load_immediate}
use Rattle.memory.specs.Blocks.{store_field}
use Rattle.memory.specs.Objects.{fst, store_fst, store_value, store_values, store_other, store_others, store_some, store_object, chunks}
use Rattle.memory.proofs.Sizes.{acquire_size, immediate_size, store_values_size, store_others_size}
use Rattle.memory_bounds.specs.Bounds.{stored_within, linked}

-- of a choice between two trees
both_choices : (b : Bool) (t u u' : Tree) → size u ≤ size u' → size (cond b t u) ≤ size (cond b t u')
both_choices true t u u' h = omega arith
both_choices false t u u' h = h

module _ (g : Shape) where
  pub some_record : (w r offset : ℕ) → 1 ≤ size (store_field g w r offset)
  some_record w r offset = both_ways (λ (t : Tree). 1 ≤ size t) (ltb w 16) (omega arith) (omega arith)

  fst_linked : (integer : Bool) (v t : ℕ) → size (store_fst g integer v t) ≤ size (store_fst g false v t)
  fst_linked true v t = some_record (fst v) HEAP (fst_offset t)
  fst_linked false v t = omega arith

  module _ (ext : ℕ → Bool) where
    value_linked : (v t : ℕ) → size (store_value g ext v t) ≤ size (store_value g linked v t)
    value_linked v t = omega (arith, fst_linked (ext v) v t)

    values_linked : (v k free : ℕ) → size (store_values g ext v k free) ≤ size (store_values g linked v k free)
    values_linked v zero free = omega arith
    values_linked v (suc k) free = omega (arith, value_linked (v + k) (free - 1), values_linked v k (free - 1))

    other_linked : (v k : ℕ) → size (store_other g ext v k) ≤ size (store_other g linked v k)
    other_linked v k = omega (arith, values_linked v k (g.fields - 1))

    others_linked : (m v n : ℕ) → size (store_others g ext m v n) ≤ size (store_others g linked m v n)
    others_linked zero v n = omega arith
    others_linked (suc m) v n =
        let rest = n - (g.fields - 1) in omega (arith, other_linked (v + rest) (n - rest), others_linked m v rest)

    some_linked : (v n : ℕ) → size (store_some g ext v n) ≤ size (store_some g linked v n)
    some_linked v n =
        let rest = n - g.fields in
        omega (arith, values_linked (v + rest) (n - rest) g.fields, others_linked (chunks (g.fields - 1) rest) v rest)

    -- no kinds of variables make a store longer than linked ones
    pub store_linked : (v n : ℕ) → size (store_object g ext v n) ≤ size (store_object g linked v n)
    store_linked v n = both_choices (eqb n 0) (load_immediate g (fst v) 0) (store_some g ext v n) (store_some g linked v n) (some_linked v n)

-- a store of some variables by their number, wherever they stand
module _ (g : Shape) (sup : Supported g) (ext : ℕ → Bool) (v n : ℕ) where
  store_some_lem : size (store_some g ext v n) ≤ stored_within g n
  store_some_lem =
      let f : ℕ = g.fields in
      let a = store_values_size g ext (v + (n - f)) (n - (n - f)) f (omega arith) in
      let q = acquire_size g (fst (v + (n - f))) in
      let z = store_others_size g ext sup (chunks (f - 1) (n - f)) v (n - f) in
      omega arith

  pub store_within : size (store_object g ext v n) ≤ stored_within g n
  store_within =
      both_ways (λ (t : Tree). size t ≤ stored_within g n) (eqb n 0) (omega (arith, immediate_size g (fst v) 0)) store_some_lem

-- a store of none is the zero that its pointer is
pub store_none_lem : (g : Shape) (v n : ℕ) → n ≡ 0 → 1 ≡ size (store_object g linked v n)
store_none_lem g v n e = rw (eq-eqb n 0 e) (both_ways (λ (t : Tree). 1 ≡ size t) (ltb (fst v) 16) refl refl)
