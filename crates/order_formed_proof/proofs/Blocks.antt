-- The trees of memory.rs for one block are well formed.
use Prim.Native.Nat.{ℕ, zero, suc, ◌^◌, ◌≤◌, ◌<◌}
use native.Mathlib.Omega.{arith}
use Rattle.layout.specs.declared.config.Shape.{Shape}
use Rattle.layout.specs.Config.{Supported, block_bytes}
use Rattle.memory.specs.Blocks.{erase_register, share_register, erase_child, erase_fields, erase_block, share_block, take_block, next_lazy, next_block, acquire_block, store_field, load_field, release_block}
use Rattle.order_formed_proof.proofs.Formed.{Formed, none, one, ◌then◌, skipped, chosen}
use Rattle.order_formed_proof.proofs.Codes.{addi, addim, mov, movs, movl, movim, cmpi, cmpim}
use Rattle.order_formed_proof.proofs.Choices.{on_operand, offset_fits, zero_fits, minus_one_fits, fst_fits, stack, temp, heap, free, block_register}

module _ (G : Shape) (sup : Supported G) where
  erase_register_lem : {r : ℕ} → r < 16 → Formed (erase_register r)
  erase_register_lem h =
      skipped (cmpi h zero_fits)
      (chosen (cmpim h zero_fits zero_fits) (one (movs free h zero_fits) then one (mov free h)) (one (addim h zero_fits minus_one_fits)))

  pub share_register_lem : {r n : ℕ} → r < 16 → n < 2 ^ 64 → Formed (share_register r n)
  share_register_lem h q = skipped (cmpi h zero_fits) (one (addim h zero_fits q))

  erase_child_lem : (i : ℕ) → i < 65536 → Formed (erase_child i)
  erase_child_lem i h = one (movl temp heap (fst_fits i h)) then erase_register_lem temp

  erase_fields_lem : (n : ℕ) → n ≤ 65536 → Formed (erase_fields n)
  erase_fields_lem zero h = none
  erase_fields_lem (suc n) h = erase_fields_lem n (omega arith) then erase_child_lem n (omega arith)

  pub formed_erase : (w : ℕ) → Formed (erase_block G w)
  formed_erase w = on_operand w (λ l. erase_register_lem l) (λ l. one (movl temp stack (offset_fits G sup w)) then erase_register_lem temp)

  pub formed_share : (w : ℕ) {n : ℕ} → n < 2 ^ 64 → Formed (share_block G w n)
  formed_share w q =
      on_operand w (λ l. share_register_lem l q)
      (λ l. skipped (cmpim stack (offset_fits G sup w) zero_fits) (one (movl temp stack (offset_fits G sup w)) then one (addim temp zero_fits q)))

  take_block_lem : (w : ℕ) → Formed (take_block G w)
  take_block_lem w = on_operand w (λ l. one (mov l heap)) (λ l. one (mov temp heap) then one (movs heap stack (offset_fits G sup w)))

  block_fits : block_bytes G < 2 ^ 64
  block_fits = omega (arith, sup.few)

  next_lazy_lem : Formed (next_lazy G)
  next_lazy_lem =
      one (mov heap free)
      then one (movl free free zero_fits)
      then chosen (cmpi free zero_fits)
      (one (mov free heap) then one (addi free block_fits))
      (one (movim heap zero_fits zero_fits) then erase_fields_lem G.fields (omega (arith, sup.few)))

  next_block_lem : {r : ℕ} → r < 16 → Formed (next_block G r)
  next_block_lem h = one (movl heap heap zero_fits) then chosen (cmpi heap zero_fits) next_lazy_lem (one (movim h zero_fits zero_fits))

  pub formed_acquire : (w : ℕ) → Formed (acquire_block G w)
  formed_acquire w = take_block_lem w then next_block_lem (block_register w)

  module _ (w : ℕ) {r o : ℕ} (h : r < 16) (f : o < 2 ^ 64) where
    pub store_field_lem : Formed (store_field G w r o)
    store_field_lem = on_operand w (λ l. one (movs l h f)) (λ l. one (movl temp stack (offset_fits G sup w)) then one (movs temp h f))

    pub load_field_lem : Formed (load_field G w r o)
    load_field_lem = on_operand w (λ l. one (movl l h f)) (λ l. one (movl temp h f) then one (movs temp stack (offset_fits G sup w)))

  pub release_block_lem : {r : ℕ} → r < 16 → Formed (release_block r)
  release_block_lem h = one (movs heap h zero_fits) then one (mov heap h)
