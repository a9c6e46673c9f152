-- Code for one block: sharing, erasing, acquiring and releasing it, and its fields stored and loaded, as trees.
-- From memory.rs. An operand is a word: below 16 a register, else a spill, which goes by TEMP where an instruction wants a register.
use Rattle.std.specs.Prelude.{ℕ, zero, suc, refl, cond, ltb}
use Rattle.records.specs.declared.code.Code.TheVariants.{ADDI, ADDIM, MOV, MOVS, MOVL, MOVIM, CMPI, CMPIM}
use Rattle.trees.specs.Tree.{Tree, nop, leaf, seq, skip_if_zero, if_zero}
use Rattle.layout.specs.declared.config.Shape.{Shape}
use Rattle.layout.specs.Config.{STACK, TEMP, HEAP, FREE, stack_offset, fst_offset, block_bytes, MINUSONE, register_for}

-- erase the object that a register points to, if it points to one: onto the lazy list, or one reference fewer
abbrev pub erase_register : ℕ → Tree
erase_register r =
    skip_if_zero (CMPI r 0) refl
    (if_zero (CMPIM r 0 0) refl (seq (leaf (MOVS FREE r 0) refl) (leaf (MOV FREE r) refl)) (leaf (ADDIM r 0 MINUSONE) refl))

-- n references more to the object that a register points to
abbrev pub share_register : ℕ → ℕ → Tree
share_register r n = skip_if_zero (CMPI r 0) refl (leaf (ADDIM r 0 n) refl)

-- child i of HEAP's block, and the first n children
abbrev pub erase_child : ℕ → Tree
erase_child i = seq (leaf (MOVL TEMP HEAP (fst_offset i)) refl) (erase_register TEMP)

abbrev pub erase_fields : ℕ → Tree
erase_fields zero = nop
erase_fields (suc n) = seq (erase_fields n) (erase_child n)

module _ (g : Shape) where
  abbrev pub erase_block : ℕ → Tree
  erase_block w = cond (ltb w 16) (erase_register w) (seq (leaf (MOVL TEMP STACK (stack_offset g w)) refl) (erase_register TEMP))

  abbrev pub share_spill : ℕ → ℕ → Tree
  share_spill w n =
      skip_if_zero (CMPIM STACK (stack_offset g w) 0) refl
      (seq (leaf (MOVL TEMP STACK (stack_offset g w)) refl) (leaf (ADDIM TEMP 0 n) refl))

  abbrev pub share_block : ℕ → ℕ → Tree
  share_block w n = cond (ltb w 16) (share_register w n) (share_spill w n)

  -- HEAP's block goes into w
  abbrev pub take_block : ℕ → Tree
  take_block w =
      cond (ltb w 16) (leaf (MOV w HEAP) refl) (seq (leaf (MOV TEMP HEAP) refl) (leaf (MOVS HEAP STACK (stack_offset g w)) refl))

  -- the next block from the lazy list, whose children are erased, or a new one past the frontier
  abbrev pub next_lazy : Tree
  next_lazy =
      seq (leaf (MOV HEAP FREE) refl)
      (seq (leaf (MOVL FREE FREE 0) refl)
      (if_zero (CMPI FREE 0) refl
      (seq (leaf (MOV FREE HEAP) refl) (leaf (ADDI FREE (block_bytes g)) refl))
      (seq (leaf (MOVIM HEAP 0 0) refl) (erase_fields g.fields))))

  -- HEAP goes on to the next block of the linear list, else to one of the lazy list; the register holds the one just taken
  abbrev pub next_block : ℕ → Tree
  next_block r = seq (leaf (MOVL HEAP HEAP 0) refl) (if_zero (CMPI HEAP 0) refl next_lazy (leaf (MOVIM r 0 0) refl))

  abbrev pub acquire_block : ℕ → Tree
  acquire_block w = seq (take_block w) (next_block (register_for w))

  -- a word from an operand into memory, and back
  abbrev pub store_field : ℕ → ℕ → ℕ → Tree
  store_field w r offset =
      cond (ltb w 16) (leaf (MOVS w r offset) refl)
      (seq (leaf (MOVL TEMP STACK (stack_offset g w)) refl) (leaf (MOVS TEMP r offset) refl))

  abbrev pub load_field : ℕ → ℕ → ℕ → Tree
  load_field w r offset =
      cond (ltb w 16) (leaf (MOVL w r offset) refl)
      (seq (leaf (MOVL TEMP r offset) refl) (leaf (MOVS TEMP STACK (stack_offset g w)) refl))

-- the block goes to the front of the linear list
abbrev pub release_block : ℕ → Tree
release_block r = seq (leaf (MOVS HEAP r 0) refl) (leaf (MOV HEAP r) refl)
