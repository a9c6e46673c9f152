-- The trees of memory.rs for whole objects are well formed, stored and loaded, of any number of variables.
use Prim.Native.Nat.{ℕ, zero, suc, ◌+◌, ◌-◌, ◌≤◌, ◌<◌}
use mathlib.Core.Bool.{Bool, true, false}
use native.Mathlib.Omega.{arith}
use lib.Dec.{eqb}
use Rattle.layout.specs.declared.config.Shape.{Shape}
use Rattle.layout.specs.Config.{Supported}
use Rattle.memory.specs.Objects.{fst, snd, chunks, store_zeros, store_fst, share_loaded, load_fst, release_unless, load_link, capacity, set_aside, restore, store_value, store_values, store_other, store_others, store_some, store_object, load_value, load_values, load_body, load_spilled, load_block, freed, load_others, load_some, load_object}
use Rattle.order_formed_proof.proofs.Formed.{Formed, none, one, ◌then◌, chosen}
use Rattle.order_formed_proof.proofs.Codes.{addim, movs, movl, movim, cmpim}
use Rattle.order_formed_proof.proofs.Choices.{either, on_operand, offset_fits, zero_fits, minus_one_fits, fst_fits, snd_fits, stack, temp, heap, return1, block_register}
use Rattle.order_formed_proof.proofs.Operations.{formed_immediate}
use Rattle.order_formed_proof.proofs.Blocks.{share_register_lem, formed_acquire, store_field_lem, load_field_lem, release_block_lem}

module _ (G : Shape) (sup : Supported G) where
  store_zeros_lem : (n : ℕ) → n ≤ 65536 → Formed (store_zeros n)
  store_zeros_lem zero h = none
  store_zeros_lem (suc n) h = store_zeros_lem n (omega arith) then one (movim heap (fst_fits n (omega arith)) zero_fits)

  store_fst_lem : (integer : Bool) (v t : ℕ) → t < 65536 → Formed (store_fst G integer v t)
  store_fst_lem integer v t h = either integer (one (movim heap (fst_fits t h) zero_fits)) (store_field_lem G sup (fst v) heap (fst_fits t h))

  share_loaded_lem : (shared : Bool) (w : ℕ) → Formed (share_loaded shared w)
  share_loaded_lem shared w = either shared (share_register_lem G sup (block_register w) (omega arith)) none

  load_fst_lem : (integer shared : Bool) (v t : ℕ) {r : ℕ} → t < 65536 → r < 16 → Formed (load_fst G integer shared v t r)
  load_fst_lem integer shared v t h k = either integer none (load_field_lem G sup (fst v) k (fst_fits t h) then share_loaded_lem shared (fst v))

  release_unless_lem : (shared : Bool) {r : ℕ} → r < 16 → Formed (release_unless shared r)
  release_unless_lem shared k = either shared none (release_block_lem G sup k)

  load_link_lem : (other : Bool) (v : ℕ) {r : ℕ} → r < 16 → Formed (load_link G other v r)
  load_link_lem other v k = either other (load_field_lem G sup (fst v) k (fst_fits (G.fields - 1) (omega (arith, sup.few)))) none

  set_aside_lem : (aside : Bool) → Formed (set_aside G aside)
  set_aside_lem aside = either aside none (one (movs return1 stack (offset_fits G sup 16)))

  formed_restore : (other : Bool) → Formed (restore G other)
  formed_restore other = either other none (one (movl return1 stack (offset_fits G sup 16)))

  capacity_most : (other : Bool) → capacity G other ≤ 65536
  capacity_most true = omega (arith, sup.few)
  capacity_most false = omega (arith, sup.few)

  module _ (ext : ℕ → Bool) where
    store_value_lem : (v t : ℕ) → t < 65536 → Formed (store_value G ext v t)
    store_value_lem v t h = store_field_lem G sup (snd v) heap (snd_fits t h) then store_fst_lem (ext v) v t h

    store_values_lem : (v k free : ℕ) → free ≤ 65536 → Formed (store_values G ext v k free)
    store_values_lem v zero free h = store_zeros_lem free h
    store_values_lem v (suc k) free h = store_value_lem (v + k) (free - 1) (omega arith) then store_values_lem v k (free - 1) (omega arith)

    store_other_lem : (v k : ℕ) → Formed (store_other G ext v k)
    store_other_lem v k = store_field_lem G sup (fst (v + k)) heap (fst_fits (G.fields - 1) (omega (arith, sup.few))) then store_values_lem v k (G.fields - 1) (omega (arith, sup.few)) then formed_acquire G sup (fst v)

    store_others_lem : (m v n : ℕ) → Formed (store_others G ext m v n)
    store_others_lem zero v n = none
    store_others_lem (suc m) v n = store_other_lem (v + (n - (G.fields - 1))) (n - (n - (G.fields - 1))) then store_others_lem m v (n - (G.fields - 1))

    store_some_lem : (v n : ℕ) → Formed (store_some G ext v n)
    store_some_lem v n =
        store_values_lem (v + (n - G.fields)) (n - (n - G.fields)) G.fields (omega (arith, sup.few))
        then formed_acquire G sup (fst (v + (n - G.fields)))
        then store_others_lem (chunks (G.fields - 1) (n - G.fields)) v (n - G.fields)

    pub formed_store : (v n : ℕ) → Formed (store_object G ext v n)
    formed_store v n = either (eqb n 0) (formed_immediate G sup (fst v) zero_fits) (store_some_lem v n)

    module _ (shared : Bool) where
      load_value_lem : (v t : ℕ) {r : ℕ} → t < 65536 → r < 16 → Formed (load_value G ext shared v t r)
      load_value_lem v t h k = load_field_lem G sup (snd v) k (snd_fits t h) then load_fst_lem (ext v) shared v t h k

      load_values_lem : (v n free : ℕ) {r : ℕ} → free ≤ 65536 → r < 16 → Formed (load_values G ext shared v n free r)
      load_values_lem v zero free h k = none
      load_values_lem v (suc n) free h k = load_value_lem (v + n) (free - 1) (omega arith) k then load_values_lem v n (free - 1) (omega arith) k

      load_body_lem : (other : Bool) (v n : ℕ) {r : ℕ} → r < 16 → Formed (load_body G ext shared other v n r)
      load_body_lem other v n k =
          release_unless_lem shared k then load_link_lem other (v + n) k then load_values_lem v n (capacity G other) (capacity_most other) k

      load_spilled_lem : (other aside : Bool) (v n : ℕ) → Formed (load_spilled G ext shared other aside v n)
      load_spilled_lem other aside v n =
          set_aside_lem aside
          then one (movl return1 stack (offset_fits G sup (fst v)))
          then load_body_lem other v n return1
          then formed_restore other

      load_block_lem : (other aside : Bool) (v n : ℕ) → Formed (load_block G ext shared other aside v n)
      load_block_lem other aside v n = on_operand (fst v) (λ l. load_body_lem other v n l) (λ l. load_spilled_lem other aside v n)

      load_others_lem : (m v n : ℕ) → Formed (load_others G ext shared m v n)
      load_others_lem zero v n = none
      load_others_lem (suc m) v n =
          load_others_lem m v (n - (G.fields - 1)) then load_block_lem true (freed G ext v (n - (G.fields - 1))) (v + (n - (G.fields - 1))) (n - (n - (G.fields - 1)))

      load_some_lem : (v n : ℕ) → Formed (load_some G ext shared v n)
      load_some_lem v n =
          load_others_lem (chunks (G.fields - 1) (n - G.fields)) v (n - G.fields) then load_block_lem false (freed G ext v (n - G.fields)) (v + (n - G.fields)) (n - (n - G.fields))

    pub formed_load : (v n : ℕ) → Formed (load_object G ext v n)
    formed_load v n =
        let r = block_register (fst v) in
        either (eqb n 0) none
        (on_operand (fst v) (λ l. none) (λ l. one (movl temp stack (offset_fits G sup (fst v))))
        then chosen (cmpim r zero_fits zero_fits) (load_some_lem false v n) (one (addim r zero_fits minus_one_fits) then load_some_lem true v n))
